-- Words for the parts of this crate, which no public clause cites.
pub mod DemoParts
pub mod ProblemCursor
pub mod ProblemParts
pub mod Writing
pub mod Endings
