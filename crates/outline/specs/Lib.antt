-- The outline of a table file: its sections, its limits and the names that it declares. Questions 4, 5 and 6.
-- How to read it: the key at the head of crate `planning`'s specs/Lib.
--
-- the lines of each letter
pub mod Sections
-- declared names, and the number of a name
pub mod Names
-- the questions put to a whole file
pub mod Questions
-- where the names stand
pub mod Part
-- what the code keeps of a file: counts and places
pub mod Index
-- what the code answers
pub mod Outlined
