-- The rows with own bytes that the writers' contracts name.
pub mod Texts
pub mod Own
