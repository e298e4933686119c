-- The demands, of files, calls and programs. How to read it: the key at the head of crate `planning`'s specs/Lib.
--
-- demand 3, with what demand 2 says of answers and listings
pub mod Demand3
-- the ten marked tables and the edges, from their files on
pub mod Marked
-- which numbers the C functions may return
pub mod Ranges
-- nothing is cut by the programs
pub mod NothingCut
