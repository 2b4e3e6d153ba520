-- Laws of stretches: which rows a child keeps by its parent's, where a list's rows are looked for, what is kept in mind, and runs of kept rows.
pub mod Owned
pub mod Keeping
pub mod Searching
pub mod Places
pub mod Minding
pub mod Telling
pub mod Here
pub mod KeptLaws
pub mod Ranges
