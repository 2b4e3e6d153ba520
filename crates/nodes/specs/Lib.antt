-- What the contracts of this crate cite.
pub mod Body
pub mod Place
pub mod Rows
