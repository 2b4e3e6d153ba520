-- The laws of the bytes of rows.
pub mod CellLaws
pub mod NodeLaws
pub mod Widths
