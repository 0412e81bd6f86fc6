pub mod Fits
pub mod Reading
pub mod Hearing
pub mod Polling
pub mod Turning
