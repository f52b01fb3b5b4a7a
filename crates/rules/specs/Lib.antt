pub mod Admission
pub mod Answers
pub mod AnswerNumbers
pub mod Demands
pub mod Batch
pub mod Cases
pub mod BatchCases
