-- The lines of a table file as numbers: used names, and question 7. How to read it: the key at the head of crate `planning`'s specs/Lib.
--
-- used names, and question 7
pub mod Uses
-- the lines of steps and methods
pub mod Row
-- the words that steps and methods are kept as
pub mod Words
-- what the code's answers mean
pub mod Answers
