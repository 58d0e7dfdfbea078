pub mod LeastRoot
pub mod Scale
pub mod Weight
