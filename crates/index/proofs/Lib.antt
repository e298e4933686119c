-- Blocks of words, and what the index has where.
pub mod Blocks
pub mod Known
pub mod Looked
