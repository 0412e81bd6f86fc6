pub mod Walking
pub mod Crewing
pub mod Telling
pub mod Waiting
pub mod Leasts
