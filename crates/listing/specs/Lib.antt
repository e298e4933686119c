-- The listing of a procedure. How to read it: the key at the head of crate `planning`'s specs/Lib.
--
-- what a listing is
pub mod Listing
-- inside: how the code makes it
pub mod Walk
pub mod Views
