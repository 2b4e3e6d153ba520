-- Laws of this crate.
pub mod AddLaws
