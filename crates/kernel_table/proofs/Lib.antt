pub mod FalloffLaws
pub mod GaussTable
pub mod KernelLaws
pub mod ProductPlaces
