pub mod DateLaws
pub mod ListLaws
pub mod LocatingLaws
pub mod BlockLaws
pub mod FormLaws
