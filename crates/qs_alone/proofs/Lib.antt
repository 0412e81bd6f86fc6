pub mod Frame
pub mod Waits
pub mod Bytes
pub mod Stages
pub mod Follows
pub mod Served
pub mod Unworked
