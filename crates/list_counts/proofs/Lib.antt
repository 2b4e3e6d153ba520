-- Laws of the child rows of picked valid rows; of rows followed down lists without a bitmap.
pub mod Counts
pub mod Chained
pub mod Climbing
