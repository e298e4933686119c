-- Laws, by topic.
pub mod Acceptance
pub mod Accepting
pub mod Asked
pub mod Lent
pub mod Indexing
