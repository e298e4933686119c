-- Laws, by topic.
pub mod Values
pub mod Clauses
pub mod Satisfied
