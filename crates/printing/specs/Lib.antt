pub mod Rooms
pub mod Questions
pub mod Batches
