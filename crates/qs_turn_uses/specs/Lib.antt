pub mod Tallies
pub mod Trackers
pub mod Stripes
pub mod Ticks
