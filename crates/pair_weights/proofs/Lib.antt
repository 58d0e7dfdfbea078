pub mod Scales
pub mod Weights
