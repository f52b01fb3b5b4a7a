pub mod Lines
pub mod Numbered
