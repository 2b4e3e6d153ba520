-- The laws of this crate.
pub mod Ways
pub mod Demand3
