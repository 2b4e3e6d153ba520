-- What the contracts of this crate cite.
pub mod Marks
pub mod Sound
