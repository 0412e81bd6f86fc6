pub mod Changes
pub mod Making
pub mod Summing
pub mod Generating
