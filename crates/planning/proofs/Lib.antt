-- The proofs, from the ground up.
-- small tables computed: the ten marked ones, and one for each rule that these leave out
pub mod Computed
-- tasks, trees, nodes, records, the variables of a part, and what it takes to satisfy a clause
pub mod Task
pub mod Tree
pub mod Everywhere
pub mod Record
pub mod Range
pub mod Satisfy
-- rules 1 and 2 give the tree, rules 3 and 4 the states; together they are demand 3
pub mod Trees
pub mod Facts
pub mod Demand3
-- how many there are: tasks and children of a node, clauses of a part, literals, bytes of a line; what is promised of formula and text
pub mod Sizes
pub mod Text
pub mod Promises
