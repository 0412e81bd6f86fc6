pub mod Finds
pub mod Over
pub mod Rooted
pub mod Groups
pub mod Keeps
pub mod Inside
pub mod Sizes
pub mod Follows
