-- How many entries a list of runs has, and a list cut to what was stored.
mod Entries
pub mod Cut
