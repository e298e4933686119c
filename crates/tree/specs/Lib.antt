-- The tree of places as words. How to read it: the key at the head of crate `planning`'s specs/Lib.
--
-- the form in which a tree is kept inside
pub mod Words
-- inside the encoding
pub mod Visit
