-- What the program `extract` prints.
pub mod Report
