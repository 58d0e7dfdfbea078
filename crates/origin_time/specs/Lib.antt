pub mod Weights
pub mod OriginTime
pub mod RootMeanSquare
