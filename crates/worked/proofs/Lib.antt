pub mod Worked
pub mod Reached
pub mod LastInstant
