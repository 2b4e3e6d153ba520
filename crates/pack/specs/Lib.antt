-- What the contracts of this crate cite beside the definitions of `format`.
pub mod Read
pub mod Tree
