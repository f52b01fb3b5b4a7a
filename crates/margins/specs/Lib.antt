pub mod Margins
pub mod Kept
pub mod Cases
