pub mod Taken
pub mod Conflicts
