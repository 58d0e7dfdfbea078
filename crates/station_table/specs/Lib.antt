pub mod Stations
pub mod Reasons
pub mod Keys
pub mod Distances
pub mod Using
pub mod Limits
pub mod KeyTables
pub mod Inside
