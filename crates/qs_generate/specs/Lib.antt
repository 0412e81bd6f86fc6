pub mod Drawing
pub mod Rounds
pub mod Lives
pub mod Generated
pub mod Sums
pub mod Nearing
pub mod Numbering
