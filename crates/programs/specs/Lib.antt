-- What the programs write. How to read it: the key at the head of crate `planning`'s specs/Lib.
--
-- what each program writes for a table and an answer
pub mod Output
-- how much is read and written at a time
pub mod Room
-- inside: a part of the output
pub mod Parts
