pub mod Places
pub mod Closes
