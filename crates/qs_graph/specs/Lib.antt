pub mod Exports
pub mod Table
pub mod History
pub mod Readings
