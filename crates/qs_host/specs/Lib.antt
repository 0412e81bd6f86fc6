pub mod Abouts
pub mod Exits
pub mod Images
pub mod Stripes
pub mod Syncs
