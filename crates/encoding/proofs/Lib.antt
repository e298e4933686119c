-- Laws, by topic.
pub mod Counted
pub mod Answers
