-- Words for the crate's own parts, on which no public clause rests.
pub mod AxisParts
pub mod BoxWalks
