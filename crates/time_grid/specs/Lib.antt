pub mod Numbers
pub mod Bodies
pub mod GridFaults
pub mod StreamFaults
pub mod Axes
pub mod Alignment
pub mod TimeGrids
pub mod Inside
