pub mod Holds
pub mod Table
pub mod History
pub mod Runs
