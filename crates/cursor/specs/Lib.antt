-- The clause cursor.
pub mod Cursor
