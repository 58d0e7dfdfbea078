-- Words for runs that locate the events of a control file.
pub mod Covers
pub mod Text
