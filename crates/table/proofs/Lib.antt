-- Computed facts, then laws by topic, then the functions.
pub mod Computed
pub mod Small
pub mod Tasks
pub mod Parts
pub mod Rows
pub mod Whole
pub mod Lookup
pub mod RootLine
pub mod Shown
pub mod Promised
pub mod Formed
