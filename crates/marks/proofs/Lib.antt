-- Laws of marked bits.
pub mod Tests
pub mod Stored
pub mod Marking
