pub mod Table
pub mod Rows
pub mod Value
pub mod Inside
pub mod Operations
pub mod WholeRuns
pub mod RunSteps
