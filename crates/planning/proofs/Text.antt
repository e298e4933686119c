-- The text: numerals, what a text call writes, the length of a line.
pub mod Numeral
pub mod Call
pub mod Length
