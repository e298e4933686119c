-- What a set of words means, and what its operations promise. How to read it: the key at the head of crate `planning`'s specs/Lib.
pub mod Set
pub mod Promises
