pub mod PlainLaws
pub mod CallLaws
pub mod Editing
pub mod Rewritten
pub mod Unique
