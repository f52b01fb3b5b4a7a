pub mod Scanned
pub mod LineText
pub mod WrittenLength
pub mod WrittenRead
pub mod ReadWritten
pub mod WriterAnswers
pub mod Cases
