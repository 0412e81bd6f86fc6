pub mod Sums
pub mod Histories
pub mod Views
pub mod Calling
pub mod Told
pub mod Ends
