pub mod Lowest
pub mod Seats
pub mod Ranks
pub mod Sound
pub mod Dense
pub mod Renumbering
pub mod Rows
pub mod Fronts
