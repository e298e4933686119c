-- how long the lines are
pub mod Lines
-- a part has a line at least
pub mod GettingOn
-- what the functions leave
pub mod Writing
