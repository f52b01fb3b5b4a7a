pub mod StepLaws
pub mod Ranges
