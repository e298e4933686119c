-- Laws.
pub mod Moves
pub mod Counts
-- what it hands back
pub mod Handing
