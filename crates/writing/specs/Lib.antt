pub mod Written
pub mod Lengths
pub mod Line
pub mod Row
