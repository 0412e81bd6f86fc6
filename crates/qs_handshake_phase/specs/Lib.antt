pub mod Tellings
pub mod Greetings
pub mod Scenes
pub mod Turns
pub mod Asks
