-- Words for the crate's own parts, on which no public clause rests.
pub mod Joins
pub mod Cells
pub mod Below
pub mod RowCells
pub mod FamilyParts
