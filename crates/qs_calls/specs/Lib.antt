pub mod Calls
pub mod Ranks
pub mod Goings
pub mod Runs
