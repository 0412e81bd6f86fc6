pub mod Coming
pub mod Replaying
pub mod Turning
pub mod Reaching
pub mod Running
pub mod ZeroDisks
