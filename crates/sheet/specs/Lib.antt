pub mod Figures
pub mod Walks
pub mod Calls
pub mod Rows
pub mod Exports
