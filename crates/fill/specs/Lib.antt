-- What the contracts of this crate cite.
pub mod Scratch
pub mod Tells
