-- Words for the crate's own parts, on which no public clause rests.
pub mod Said
pub mod NextStatement
pub mod NextFault
pub mod Follows
pub mod SaidLimits
pub mod ReadValues
pub mod Completion
pub mod IncludeNames
