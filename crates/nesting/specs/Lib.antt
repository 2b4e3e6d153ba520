-- What the contracts of this crate cite.
pub mod Rows
pub mod Facts
pub mod Hands
