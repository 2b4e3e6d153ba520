-- Laws of the child rows of lists as a bitmap.
pub mod Spans
pub mod Parts
mod Words
