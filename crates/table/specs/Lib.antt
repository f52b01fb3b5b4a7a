pub mod Limits
pub mod Keys
pub mod Fresh
pub mod Parts
