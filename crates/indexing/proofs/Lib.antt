-- The laws, by topic.
-- what the records' words and the nodes are
pub mod Nodes
-- the loops, each with a law for the start, for a turn and for the end
pub mod Loops
pub mod Children
-- the whole index
pub mod Whole
-- small tables computed
pub mod Computed
-- what the structs say of their values
pub mod Structs
