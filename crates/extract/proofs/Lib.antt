-- What the program needs to know of an answer.
pub mod Fits
