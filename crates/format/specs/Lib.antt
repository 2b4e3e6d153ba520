-- docs/FORMAT.md as definitions, to be read beside it in this order; the first line of each file names its sections.
pub mod Bytes
pub mod Words
pub mod Slots
pub mod Node
pub mod Verdict
pub mod Mask
pub mod Kept
pub mod Write
pub mod Refusal
pub mod Reason
pub mod Answer
pub mod Names
-- how long a written pack is; what acceptance gives later code; what a writer promises of its output; the rows that blocks give
pub mod Size
pub mod Accepted
pub mod Put
pub mod Rows
