-- Laws by topic, then the functions.
pub mod Numbers
pub mod Values
pub mod Letters
pub mod Reading
pub mod Whole
