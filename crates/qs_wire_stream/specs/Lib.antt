pub mod Patience
pub mod Pending
pub mod Currents
pub mod Runs
