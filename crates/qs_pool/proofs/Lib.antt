pub mod Lining
pub mod Sums
