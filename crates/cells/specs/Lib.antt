-- Inside the reader of an answer: what the code's numbers, lines and states stand for. How to read it: the key at the head of crate
-- `planning`'s specs/Lib.
--
-- numbers
pub mod Number
-- the kinds of line, and the word
pub mod Kind
-- how far an answer is read
pub mod State
-- what comes back
pub mod Read
