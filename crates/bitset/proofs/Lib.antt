-- small sets computed
pub mod Computed
-- digits of words, and members as digits
pub mod Digits
pub mod Members
pub mod Made
-- words combined with their partners
pub mod Words
-- the loops' invariants
pub mod Loops
-- what the words mean
pub mod Promises
