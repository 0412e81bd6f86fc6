pub mod Naming
pub mod Overlays
