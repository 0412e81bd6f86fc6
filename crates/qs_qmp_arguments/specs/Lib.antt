pub mod Problems
pub mod Kinds
pub mod Arguments
pub mod Limiting
pub mod Commands
