pub mod Cases
pub mod Printed
pub mod TrueMargins
pub mod CutTexts
