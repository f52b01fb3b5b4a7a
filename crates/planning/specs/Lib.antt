pub mod Narrowing
pub mod Places
pub mod Graphs
pub mod Plans
pub mod Offsets
