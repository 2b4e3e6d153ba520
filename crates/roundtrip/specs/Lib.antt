-- What an extract says of itself, read back.
pub mod Back
-- where the writer puts what
pub mod Placed
