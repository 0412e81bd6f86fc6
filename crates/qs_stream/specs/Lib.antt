pub mod Faults
pub mod Bytes
pub mod Buffers
pub mod Flows
