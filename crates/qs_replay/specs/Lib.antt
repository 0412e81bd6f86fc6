pub mod Readings
pub mod Scripts
pub mod Runs
pub mod ZeroDisks
