-- Laws of the printed line, and its examples.
pub mod Decimal
pub mod Lines
pub mod Cases
