-- The laws of moves that overlap.
pub mod Overlap
