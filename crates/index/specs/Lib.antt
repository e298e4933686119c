-- Inside the encoding: what the cursor looks up. How to read it: the key at the head of crate `planning`'s specs/Lib.
pub mod Index
