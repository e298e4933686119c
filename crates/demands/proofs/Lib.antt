-- demand 3; the ten marked tables, and the edges
pub mod Demand3
pub mod Marked
-- which numbers a call turns down by
pub mod Ranges
-- a formula's parts are the whole; a file longer than was read is noticed
pub mod Whole
pub mod Cut
