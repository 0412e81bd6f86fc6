pub mod Widths
pub mod Overlays
pub mod Spelling
pub mod Requests
