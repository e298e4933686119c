-- Inside the encoding: what its code goes through, shown to be planning's; nothing to believe. How to read it: the key at the head of
-- crate `planning`'s specs/Lib.
--
-- positions in a nest of loops
pub mod Nest
-- nodes and children, from the tree records alone
pub mod Flat
-- the place of a clause, its literals, and the loops that go through all places
pub mod ClausePlace
-- what the cursor hands back
pub mod Cursor
-- how many clauses there are
pub mod Total
-- what is looked up by node number
pub mod Lookup
