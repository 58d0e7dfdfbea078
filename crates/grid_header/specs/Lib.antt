pub mod Layout
pub mod Numbers
pub mod Causes
pub mod Reading
pub mod Inside
