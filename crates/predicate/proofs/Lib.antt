-- Laws of picks and lists, of blocks, of a word's runs, and of the selections of a route.
pub mod Picks
pub mod Steps
pub mod WordRuns
pub mod Holding
pub mod Props
