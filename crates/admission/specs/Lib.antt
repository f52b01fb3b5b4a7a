pub mod Loads
pub mod Admission
