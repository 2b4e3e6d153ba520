-- Laws of counts of kept rows.
pub mod Listed
