pub mod Lines
pub mod Steps
pub mod Fixes
pub mod Salvage
pub mod Neat
pub mod Cases
