-- What the contracts of this crate cite.
pub mod Run
pub mod Width
