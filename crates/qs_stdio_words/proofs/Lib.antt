pub mod FromLeft
