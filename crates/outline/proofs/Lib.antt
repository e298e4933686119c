-- Computed facts, then laws by topic, then the functions.
pub mod Computed
pub mod Sections
pub mod Texts
pub mod Questions
pub mod Places
pub mod Names
pub mod Spans
pub mod ByKind
