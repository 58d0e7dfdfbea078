pub mod Cover
pub mod Near
pub mod Outcomes
pub mod Fewest
pub mod Meanings
pub mod Arena
pub mod Inside
