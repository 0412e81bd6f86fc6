pub mod Lists
pub mod Stories
pub mod Verdicts
pub mod Traces
pub mod Kept
pub mod Judged
