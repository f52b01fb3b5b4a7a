pub mod Multiples
pub mod Masks
