pub mod Images
pub mod Runs
pub mod Successors
pub mod Graphs
pub mod MemoryLaws
