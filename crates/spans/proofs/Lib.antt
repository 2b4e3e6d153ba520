-- Laws of what rows span: run by run of a word, and word by word of a test.
pub mod Spanned
pub mod ByWords
pub mod Listed
