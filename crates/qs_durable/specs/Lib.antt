pub mod Ages
pub mod Bounds
pub mod Laws
pub mod Example
