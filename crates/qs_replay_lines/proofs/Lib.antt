pub mod Numbers
pub mod Playing
pub mod Happening
pub mod Known
pub mod Lives
pub mod Cutting
