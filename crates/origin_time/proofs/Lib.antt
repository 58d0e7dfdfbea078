pub mod Medians
pub mod Uniqueness
pub mod Roots
pub mod Functions
