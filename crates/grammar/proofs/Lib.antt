-- Computed facts, then laws by topic, then the functions.
pub mod Computed
pub mod Bytes
pub mod Names
pub mod Lines
pub mod Places
pub mod Files
