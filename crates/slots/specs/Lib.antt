-- What the contracts of this crate cite.
pub mod Source
pub mod Slot
pub mod Node
