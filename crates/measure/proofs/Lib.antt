-- Laws of the measure.
pub mod Sizes
pub mod NodeEnd
