pub mod Outcomes
pub mod Memory
