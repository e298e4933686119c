-- Computed facts, then laws by topic.
-- document 01's answer, and answers around the edges
pub mod Computed
-- question 14, and the values
pub mod Once
pub mod Values
-- a cell for each variable
pub mod Filling
pub mod Placed
-- the left-to-right reading is the meaning
pub mod Lines
pub mod Reading
-- which bytes are formed: parts and lines, numbers, the kinds of line
pub mod Parts
pub mod Numeral
pub mod Number
pub mod Line
pub mod Exact
-- every list of values has a formed answer
pub mod File
