pub mod Running
pub mod Fitting
pub mod Crewed
pub mod Streams
