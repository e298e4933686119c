-- The questions that the calls put. How to read it: the key at the head of crate `planning`'s specs/Lib.
--
-- their numbers
pub mod Number
