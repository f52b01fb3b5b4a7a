pub mod ScannerLaws
pub mod Images
pub mod Predecessors
pub mod Faults
pub mod MaskBits
pub mod Members
