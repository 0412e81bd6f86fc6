pub mod Events
pub mod Telling
pub mod Options
pub mod Turns
pub mod Openings
pub mod Reading
