-- The laws of a buffer behind the body, and of own bytes row by row.
pub mod PutLaws
pub mod Cuts
