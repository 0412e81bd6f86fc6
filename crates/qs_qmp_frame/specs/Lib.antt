pub mod Objects
pub mod Phases
pub mod Streams
