pub mod Place
pub mod Kind
pub mod Line
