pub mod Printed
pub mod Batches
