-- Laws of the scan over the words of a bit source, and of what is asked of its slots.
pub mod Scan
pub mod Asked
pub mod Blanks
