-- Words for runs that solve a problem file.
pub mod ProblemFile
pub mod ProblemValues
pub mod Text
