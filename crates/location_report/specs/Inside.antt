-- Words for the crate's own parts, on which no public clause rests.
pub mod Locating
pub mod CivilDays
