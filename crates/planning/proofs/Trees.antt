-- Rules 1 and 2, which give the tree. `Whole` collects the others.
pub mod Hold
pub mod Letters
pub mod Solve
pub mod Complete
pub mod Chosen
pub mod Read
pub mod Agree
pub mod Places
pub mod Encode
pub mod Whole
