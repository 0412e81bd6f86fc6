pub mod Plays
pub mod Falling
pub mod Goings
pub mod Runs
pub mod RunCalls
