pub mod Planning
pub mod Laws
pub mod Room
pub mod Unique
