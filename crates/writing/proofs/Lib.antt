pub mod Counting
pub mod Writing
pub mod Texts
pub mod Responses
pub mod Rows
pub mod AnswerLine
