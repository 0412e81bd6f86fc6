pub mod Clear
pub mod Lists
