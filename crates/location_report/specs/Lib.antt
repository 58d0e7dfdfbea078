pub mod Dates
pub mod Lines
pub mod Blocks
pub mod Texts
pub mod BlockForms
pub mod Reports
pub mod Inside
