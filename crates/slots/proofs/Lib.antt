-- Laws of a bit source, and of a mask's bits as one.
pub mod Reading
pub mod Masked
pub mod Counting
