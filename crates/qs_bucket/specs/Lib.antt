pub mod Admissions
pub mod Level
pub mod Bucket
