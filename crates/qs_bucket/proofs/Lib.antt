pub mod Ceil
pub mod Owed
pub mod Windows
pub mod Both
