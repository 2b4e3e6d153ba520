-- What the contracts of this crate cite.
pub mod Filled
pub mod Places
pub mod Words
