pub mod LineCursor
pub mod WordCursor
pub mod PlacedWords
pub mod Reading
pub mod Inside
