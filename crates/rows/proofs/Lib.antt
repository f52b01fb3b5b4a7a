pub mod Lists
pub mod Entries
pub mod Shown
pub mod Parts
