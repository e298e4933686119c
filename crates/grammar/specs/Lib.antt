-- The form of a table file: document 01, "The table file", and questions 2 and 3. How to read it: the key at the head of crate `planning`'s specs/Lib.
--
-- bytes, names and lists
pub mod Byte
pub mod Name
-- lines and their fields
pub mod Line
-- the questions put to a whole file
pub mod File
-- inside the reader: where a field stands, and the forms of field as the code names them
pub mod Field
