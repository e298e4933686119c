-- Laws, by topic.
pub mod Nodes
pub mod Slots
pub mod Groups
pub mod Structs
pub mod Facts
