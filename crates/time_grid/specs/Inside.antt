-- Words for the crate's own parts, on which no public clause rests.
pub mod Selections
pub mod Cursors
pub mod Judging
pub mod Steps
pub mod Streams
