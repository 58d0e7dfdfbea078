pub mod Counts
pub mod HasFaults
pub mod MemoryShelves
pub mod MemorySinks
pub mod OpenFaults
pub mod ReadFaults
pub mod Shelves
pub mod Sinks
