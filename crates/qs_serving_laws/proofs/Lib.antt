pub mod Storied
