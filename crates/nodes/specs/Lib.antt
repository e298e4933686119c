-- The lent tree records. How to read it: the key at the head of crate `planning`'s specs/Lib.
--
-- the table's own tree in that form, and the questions put to a lent one
pub mod Tree
-- inside: the records as words
pub mod Nodes
