-- What the contracts of this crate cite.
pub mod Asked
pub mod Words
