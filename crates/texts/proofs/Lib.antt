-- The laws of rows with own bytes.
pub mod TextLaws
pub mod NodeLaws
