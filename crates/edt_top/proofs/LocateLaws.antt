-- Laws of runs that locate the events of a control file.
pub mod WritingSteps
pub mod FoundLaws
pub mod LaneLaws
pub mod CoverLaws
pub mod InputSteps
