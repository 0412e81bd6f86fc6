pub mod Positions
pub mod Rows
pub mod Syncs
pub mod Stories
pub mod Durable
pub mod Example
