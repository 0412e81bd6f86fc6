pub mod Ends
pub mod Gated
pub mod Starts
pub mod Tries
