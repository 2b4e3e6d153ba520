-- The laws of a prepared mask's answer.
pub mod Slips
