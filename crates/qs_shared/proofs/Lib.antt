pub mod Passing
pub mod Wholes
pub mod Replies
pub mod NewTurns
pub mod FirstPass
