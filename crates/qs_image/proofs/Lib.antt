pub mod Contents
pub mod Striped
pub mod Turns
