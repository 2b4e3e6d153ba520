-- Stretches of rows that are alike, what is kept in mind of them, and runs of kept rows.
pub mod Stretches
pub mod Kept
