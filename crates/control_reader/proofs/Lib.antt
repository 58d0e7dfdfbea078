mod ListLaws
mod KeywordLaws
mod LineKinds
mod StatementFaults
mod DraftSteps
mod FaultSteps
mod LineSteps
mod FileSteps
mod ReadSteps
mod CompletionSteps
pub mod ValueSteps
mod NameSteps
mod IncludeSteps
mod GridLimits
mod PhaseIdSteps
