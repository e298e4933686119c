-- small lines computed
pub mod Computed
-- numerals digit by digit, literals as numbers, a clause literal by literal, the header part by part
pub mod Numerals
pub mod Literals
pub mod Header
-- bytes copied one by one
pub mod Copied
-- the loops' invariants
pub mod Loops
