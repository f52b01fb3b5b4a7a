pub mod Call
pub mod Told
