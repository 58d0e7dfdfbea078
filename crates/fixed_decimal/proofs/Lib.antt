pub mod ByteLaws
pub mod MarkLaws
pub mod RunForm
pub mod LeavingLaws
pub mod CutLaws
pub mod NearestLaws
pub mod DigitLaws
pub mod ReadingLaws
