pub mod Instants
pub mod Arguments
pub mod Lengths
pub mod Words
pub mod Questions
