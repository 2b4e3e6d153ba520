-- Laws of a selection's blocks, of own bytes and rebuilt offsets written block by block, and of a node's buffers.
pub mod Blocks
pub mod TextWalk
pub mod Buffers
