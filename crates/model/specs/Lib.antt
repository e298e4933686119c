-- Inside the answer's calls: clauses under values.
pub mod Clauses
