-- Rules 3 and 4, which give the states. `Whole` goes from slot to slot.
pub mod Run
pub mod Slot
pub mod Whole
pub mod Boundaries
