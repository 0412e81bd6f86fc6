pub mod Reached
pub mod Ends
pub mod Loads
pub mod Merges
pub mod Made
pub mod Rows
pub mod NextSync
pub mod Wanted
mod WholeReads
mod WholeWrites
mod RunChains
mod RunMachine
mod RunZeros
