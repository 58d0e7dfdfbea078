-- Words for the crate's own parts, on which no public clause rests.
pub mod Deciding
pub mod Numbering
pub mod Planning
pub mod Problems
pub mod Reads
