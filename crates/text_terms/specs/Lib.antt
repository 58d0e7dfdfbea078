pub mod Lines
pub mod Words
pub mod Numerals
pub mod Names
pub mod Faults
pub mod Prefixes
