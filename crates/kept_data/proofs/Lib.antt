-- Laws of nulls and of data bytes among kept rows.
pub mod Nulls
pub mod Texts
pub mod DataBytes
pub mod Rooted
