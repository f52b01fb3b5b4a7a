pub mod KeyLaws
pub mod LineLaws
pub mod NumberedLaws
pub mod Taking
