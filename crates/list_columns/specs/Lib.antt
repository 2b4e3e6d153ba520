-- The sizes of list rows that the writers' contracts name.
pub mod Spans
pub mod Lists
