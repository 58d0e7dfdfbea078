-- Words for the crate's own parts, on which no public clause rests.
pub mod Cases
pub mod Marking
pub mod Walks
