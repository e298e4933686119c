-- Inside the encoding: the literals of one clause.
pub mod Parts
