-- Laws, by topic.
-- small tables computed
pub mod Computed
-- the rows node by node: for a model's values they are the tree's; how many and how long they are
pub mod Walked
pub mod Lines
pub mod Chosen
pub mod Rows
pub mod Fits
-- what the code looks up and writes
pub mod Sought
pub mod Writes
pub mod Nodes
pub mod Loops
