-- Laws that the proofs of this crate share.
pub mod Children
pub mod Fits
pub mod Sizes
pub mod Inside
pub mod Counts
pub mod Order
