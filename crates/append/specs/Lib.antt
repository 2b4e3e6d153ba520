-- The byte strings that the writers' contracts name.
pub mod Cells
pub mod Ranges
