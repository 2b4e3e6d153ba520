-- Laws that the proofs of this crate and of those above share.
pub mod Marks
