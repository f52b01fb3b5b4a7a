pub mod LoadLaws
pub mod PaceLaws
pub mod Admissions
