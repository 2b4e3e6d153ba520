-- Laws of an iterator over runs.
pub mod Yields
