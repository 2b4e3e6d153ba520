-- Laws of the definitions, and the theorems over them.
pub mod Laws
pub mod SlotLaws
pub mod WordLaws
pub mod Put
pub mod Threshold
pub mod Numbers
pub mod PackedLaws
pub mod NullLaws
pub mod RowLaws
pub mod SpanLaws
pub mod Measure
pub mod Accepted
pub mod Refusals
pub mod Reasons
pub mod Returns
pub mod Demand3
pub mod Cases
