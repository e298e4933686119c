-- The solver's answer file. How to read it: the key at the head of crate `planning`'s specs/Lib.
--
-- numbers
pub mod Number
-- lines
pub mod Line
-- the file
pub mod File
-- questions 12 to 14, and the values
pub mod Questions
-- the statements: lines and values, put the other way round
pub mod Exact
-- inside the reader: an answer read from left to right
pub mod Scan
