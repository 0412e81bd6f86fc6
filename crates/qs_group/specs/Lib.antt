pub mod Budget
pub mod Queue
pub mod Turns
pub mod Table
pub mod Levels
pub mod History
pub mod Served
