pub mod Positions
pub mod Masks
