pub mod States
pub mod Rows
pub mod Events
pub mod Steps
