-- The calls for other languages. How to read it: the key at the head of crate `planning`'s specs/Lib.
--
-- what a call hands back, as numbers
pub mod Numbers
