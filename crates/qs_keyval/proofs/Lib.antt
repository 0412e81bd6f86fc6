pub mod Splitting
pub mod Spelling
pub mod Fronts
pub mod Keys
