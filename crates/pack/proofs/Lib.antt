-- Laws that the proofs of this crate share.
pub mod Bitmap
pub mod Ranges
pub mod Closed
pub mod Stack
