pub mod Plains
pub mod Editing
pub mod Calls
