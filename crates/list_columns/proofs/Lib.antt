-- The laws of list rows that are written block by block.
pub mod SpanLaws
