pub mod Nodes
pub mod Table
pub mod Tree
pub mod Ways
pub mod Sizes
pub mod Follows
