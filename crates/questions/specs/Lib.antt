-- The questions that several calls put. How to read it: the key at the head of crate `planning`'s specs/Lib.
--
-- which table is accepted, and what comes of a call's questions
pub mod Questions
-- inside: what stands in an accepted table
pub mod Own
