pub mod FromLeft
pub mod Within
