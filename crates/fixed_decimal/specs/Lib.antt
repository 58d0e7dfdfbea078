pub mod Form
pub mod Leaving
pub mod Nearest
pub mod Value
pub mod Inside
