pub mod LineKinds
pub mod PickFields
pub mod PickFaults
pub mod PhaseEvents
pub mod PhaseFile
pub mod Limits
pub mod Inside
