pub mod Few
pub mod Downward
