-- Laws of kept rows.
pub mod Between
pub mod ListRows
pub mod RunRows
pub mod Tree
pub mod Arrays
pub mod ByKind
pub mod ListAt
mod Valid
pub mod Sieve
pub mod Counting
pub mod Picks
pub mod Levels
pub mod RunEdges
pub mod Scratch
pub mod Direct
pub mod Handed
