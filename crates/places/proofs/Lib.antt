-- The laws, by topic.
-- small tables computed
pub mod Computed
-- lists by index, places in sets, positions in a nest of loops
pub mod Index
pub mod Rank
pub mod Walk
-- what is worked out from the records is what planning says of the tree
pub mod Records
-- the literals of all places, in order, are the formula, and the cursor hands them out
pub mod Groups
pub mod Formula
pub mod Cursor
-- how many there are
pub mod Total
-- the laws that code cites: the search for a line and the text from there on, nodes by number, what is there, how short the loops are
pub mod Next
pub mod Lookup
pub mod Valid
pub mod Small
