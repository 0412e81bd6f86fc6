pub mod Books
pub mod Walks
pub mod Tasks
pub mod Crews
pub mod Stories
