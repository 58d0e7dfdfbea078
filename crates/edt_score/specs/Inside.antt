-- Words for the crate's own parts, on which no public clause rests.
pub mod BoxDomination
pub mod DemoParts
pub mod Domination
pub mod Ends
pub mod Families
pub mod KeptFamily
pub mod Lanes
pub mod LookLimit
pub mod Pairs
pub mod UsedRows
