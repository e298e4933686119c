-- How scans follow the definitions: laws, then the functions.
pub mod Cutting
pub mod Same
pub mod Parted
