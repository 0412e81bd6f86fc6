pub mod Graphs
pub mod Answers
pub mod Fitting
pub mod Crewed
pub mod Events
pub mod Steps
pub mod Scenes
pub mod Turns
