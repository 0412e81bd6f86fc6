pub mod Service
pub mod Resting
pub mod Remaining
pub mod Joining
