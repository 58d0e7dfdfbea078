-- Words for the crate's own parts, on which no public clause rests.
pub mod WordsLeft
pub mod FirstFaults
pub mod Keeping
