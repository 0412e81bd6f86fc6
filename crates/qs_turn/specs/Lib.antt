pub mod Orders
pub mod Names
pub mod Rule
pub mod Steps
pub mod Idle
pub mod Words
