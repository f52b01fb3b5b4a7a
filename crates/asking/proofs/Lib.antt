pub mod Pieces
pub mod Spellings
pub mod CommandLines
pub mod Asking
pub mod Spelled
