-- Words for runs that make a problem from a number.
pub mod Text
