-- Laws, by topic.
-- literals written one behind the other, and loops over variables
pub mod Pushed
pub mod Loops
-- what is looked up: nodes, tasks, facts
pub mod Tasks
pub mod Facts
-- the three loops, and which clause stands at a place
pub mod Turns
pub mod Cases
