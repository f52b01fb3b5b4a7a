pub mod MaskNumbers
pub mod Named
pub mod GraphCounts
pub mod JudgeLaws
pub mod TableLaws
pub mod Zeros
