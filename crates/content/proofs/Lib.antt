-- Laws of folded tests, and of the numbers in a node's buffers.
pub mod Fold
pub mod Tests
pub mod Nodes
pub mod SignLaws
pub mod ViewLaws
