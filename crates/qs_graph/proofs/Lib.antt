pub mod Standing
pub mod Rights
pub mod Sound
pub mod Rows
pub mod Pairs
