-- Laws of the tables of `compress` and of its loop, and of the packer.
pub mod Ruled
pub mod FourLaws
pub mod PackLaws
