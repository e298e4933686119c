-- What a table file is read as: document 01, "The table file", and questions 2 to 7. How to read it: the key at the head of crate `planning`'s specs/Lib.
--
-- the first unmet question, or the table and where its names stand
pub mod Reading
-- what the code's table means
pub mod Layout
-- the statements: what holds of every reading; the files of the marked tables, and the edges
pub mod Promises
pub mod Examples
-- inside: the table as the code puts it together
pub mod Code
