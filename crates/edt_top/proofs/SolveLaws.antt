-- Laws of runs that solve a problem file.
pub mod ProblemForms
pub mod ProblemSteps
pub mod ProblemValid
pub mod AnswerLines
pub mod EndingSteps
