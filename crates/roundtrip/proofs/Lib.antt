-- An accepted call's extract read back: first what the writer laid down, over any columns and kept nodes,
pub mod Parts
pub mod Written
pub mod Cells
-- then an accepted journal's extract: its kept part, and each refusal,
pub mod Rows
pub mod Again
pub mod Shape
pub mod Content
-- and the theorems, over a journal and over a call
pub mod Roundtrip
pub mod Octets
pub mod Witness
