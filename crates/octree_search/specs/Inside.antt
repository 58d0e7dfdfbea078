-- Words for the crate's own parts, on which no public clause rests.
pub mod Meeting
pub mod NearBoxes
