pub mod Perms
pub mod Users
