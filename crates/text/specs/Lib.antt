-- Inside the encoding: the lines of a formula, written from a line on.
pub mod Lines
