pub mod Numbers
pub mod Pieces
pub mod Spans
pub mod Errnos
pub mod Names
pub mod Stored
pub mod Geometry
pub mod Payloads
