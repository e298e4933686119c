-- How many there are: clauses of each part, tasks and children at a node, literals of a clause, clauses in all.
pub mod Count
pub mod Sized
pub mod Small
pub mod Few
