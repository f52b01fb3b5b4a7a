pub mod Plain
pub mod Judged
