-- Words for the crate's own parts, on which no public clause rests.
pub mod Drafts
pub mod KeyWords
pub mod Named
