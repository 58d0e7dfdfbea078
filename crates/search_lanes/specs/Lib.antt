pub mod Lanes
pub mod LaneRuns
pub mod LaneCuts
pub mod Schedule
pub mod LaneViews
pub mod Inside
