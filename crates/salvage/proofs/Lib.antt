pub mod Begun
pub mod Reading
pub mod Calls
pub mod Measuring
pub mod Putting
pub mod Told
pub mod Room
