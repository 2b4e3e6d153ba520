-- The laws of numbers' bytes, and of a word's rows and runs.
pub mod Bytes
pub mod Carry
pub mod Moved
pub mod Turns
pub mod Widths
