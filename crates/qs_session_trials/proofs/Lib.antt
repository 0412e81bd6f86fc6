pub mod Trialled
