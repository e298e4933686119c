-- What every crate's definitions share. How to read them: the key at the head of crate `planning`'s specs/Lib.
--
-- lists
pub mod List
-- questions put one after the other
pub mod Question
-- what a write into a buffer leaves
pub mod Written
-- text as bytes
pub mod Text
