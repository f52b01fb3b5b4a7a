pub mod TextLaws
pub mod MaskText
pub mod NameLaws
pub mod Halfway
pub mod Steps
