-- Laws of this crate.
mod Fields
mod Listed
