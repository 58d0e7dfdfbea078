pub mod Solve
pub mod Locate
pub mod Demo
pub mod Commands
pub mod RunRefusals
pub mod RunEndings
pub mod Runs
pub mod Inside
