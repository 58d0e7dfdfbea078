pub mod Falloff
pub mod Kernel
pub mod Reciprocal
