pub mod RowNumbers
pub mod HasRow
pub mod Looked
pub mod MovedRows
pub mod Rows
