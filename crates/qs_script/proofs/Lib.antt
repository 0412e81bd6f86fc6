pub mod Naming
pub mod Digits
pub mod Splitting
pub mod Reading
pub mod DataWords
pub mod Picking
pub mod OneLine
