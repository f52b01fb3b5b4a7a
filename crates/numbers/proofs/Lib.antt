pub mod Cases
pub mod Products
pub mod Euclid
pub mod MaskLaws
pub mod Counts
