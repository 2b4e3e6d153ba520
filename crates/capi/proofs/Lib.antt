-- The laws of this crate.
pub mod Demand3
pub mod Witness
