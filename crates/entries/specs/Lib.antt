-- What the C entry points answer in numbers.
pub mod Numbers
