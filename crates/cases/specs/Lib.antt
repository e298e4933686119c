-- What the program of stored cases works out by itself. How to read it: the key at the head of crate `planning`'s specs/Lib.
--
-- the number that digits spell
pub mod Number
-- a count within a buffer
pub mod Within
-- the checksum
pub mod Checksum
