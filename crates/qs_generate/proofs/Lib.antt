pub mod Following
pub mod Weights
pub mod Anew
