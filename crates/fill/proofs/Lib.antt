-- Laws of bitmaps in scratch.
pub mod Stored
pub mod Reading
pub mod Filling
