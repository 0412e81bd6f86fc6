pub mod Parts
pub mod Passes
pub mod Calling
pub mod Hall
pub mod Rows
pub mod Following
