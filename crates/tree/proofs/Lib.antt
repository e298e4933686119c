-- the methods of a node's jobs, what they make of its children, and the chains that count and measure them
pub mod Methods
pub mod Chains
-- visits one after the other
pub mod Visits
pub mod Whole
pub mod Loops
