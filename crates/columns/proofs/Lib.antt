-- The laws of a column that is written block by block.
pub mod Walk
pub mod EntryWalk
pub mod Passing
pub mod Buffers
