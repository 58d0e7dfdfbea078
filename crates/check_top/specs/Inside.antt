-- Words for the parts of this crate, which no public clause cites.
pub mod Cases
pub mod Checks
pub mod Cursors
pub mod Endings
pub mod Lines
