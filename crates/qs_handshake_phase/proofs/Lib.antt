pub mod Running
pub mod Telling
pub mod Hearing
pub mod Turning
pub mod Wishing
