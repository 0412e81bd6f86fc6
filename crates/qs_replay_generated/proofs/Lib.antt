pub mod Counting
pub mod Lines
pub mod Chains
pub mod Doing
pub mod SameDisks
pub mod Telling
pub mod Sums
