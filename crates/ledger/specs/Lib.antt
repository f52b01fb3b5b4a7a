pub mod Entries
pub mod Loops
pub mod Finishing
pub mod Releasing
pub mod Ranks
pub mod Forming
pub mod Walking
pub mod Showing
