-- Calls that meet the premises of the theorems, by function.
pub mod Filter
