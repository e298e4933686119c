-- Computed facts, then laws by topic, then the functions.
pub mod Computed
pub mod Counts
pub mod Names
pub mod Words
pub mod FactList
pub mod Walk
pub mod StepLines
pub mod BodyList
pub mod MethodLines
pub mod EndLines
