pub mod Placing
pub mod Sharing
pub mod TrueBatches
