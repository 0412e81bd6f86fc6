pub mod Checked
pub mod Lookups
pub mod Nearest
pub mod Tickets
pub mod Budgets
pub mod Rounds
pub mod Unique
pub mod Answered
