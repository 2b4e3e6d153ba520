-- What the packer means, and the tables of compress.
pub mod Fours
pub mod Pack
pub mod Waiting
