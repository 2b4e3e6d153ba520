-- What the contracts of this crate cite.
pub mod Entries
pub mod Selection
pub mod Blocks
