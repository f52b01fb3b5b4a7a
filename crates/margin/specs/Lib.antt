pub mod Calls
pub mod Exports
