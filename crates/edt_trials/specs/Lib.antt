pub mod Table
pub mod TableLaw
pub mod Judges
