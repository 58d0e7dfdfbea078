pub mod SinkFronts
pub mod FaultyLaws
pub mod NumberedLaws
pub mod RefusalLaws
pub mod IncludedSteps
pub mod ControlSteps
pub mod PhaseSteps
pub mod InputSteps
