pub mod SessionNames
pub mod StoredNames
pub mod Spelled
pub mod Verbs
pub mod Lines
pub mod Finds
pub mod Cuts
pub mod Prints
