-- small examples
pub mod Computed
