-- Bytes, parts and lines of a file. How to read it: the key at the head of crate `planning`'s specs/Lib.
--
-- bytes
pub mod Bytes
-- the parts that a byte parts, and the lines that LF ends
pub mod Parts
-- a part by its place
pub mod Part
-- inside the readers: where the first byte c stands
pub mod Cut
