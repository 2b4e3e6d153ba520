-- The laws of a node's buffers: its bitmap, its first and second buffer, and what all three add to the body.
pub mod BodyLaws
pub mod NullLaws
pub mod BufferLaws
pub mod ListLaws
