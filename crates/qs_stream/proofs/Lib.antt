pub mod Parts
pub mod Bytes
pub mod Moves
pub mod Calls
