-- Inside the encoding: how long the loops are that the cursor goes through.
pub mod Shape
pub mod Once
pub mod Views
