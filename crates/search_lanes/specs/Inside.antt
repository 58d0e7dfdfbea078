-- Words for the crate's own parts, on which no public clause rests.
pub mod Slots
pub mod Bags
pub mod Whole
pub mod Moves
pub mod Choosing
pub mod Passing
