pub mod SolveLaws
pub mod LocateLaws
pub mod DemoLaws
pub mod StatusLaws
pub mod RunLaws
