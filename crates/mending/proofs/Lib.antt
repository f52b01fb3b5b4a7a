pub mod Unpadding
pub mod TextRead
pub mod Changes
pub mod KindsRead
pub mod ListRead
pub mod Lengths
