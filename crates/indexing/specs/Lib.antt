-- The writing of the index of a table. How to read it: the key at the head of crate `planning`'s specs/Lib.
pub mod Stands
-- what the structs carry, and what they stand for
pub mod Once
pub mod Views
