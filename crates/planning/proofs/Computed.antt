-- Facts of small tables, computed: models counted by trying every list of values, formulas and records written out.
pub mod Try
pub mod Test
pub mod Marked
pub mod Worked
pub mod Rich
