pub mod NameLaws
pub mod ReadingLaws
pub mod TakenWords
