-- The formula part's calls. How to read it: the key at the head of crate `planning`'s specs/Lib.
--
-- what each call answers and leaves
pub mod Calls
-- inside: what the calls' parts say
pub mod Parts
