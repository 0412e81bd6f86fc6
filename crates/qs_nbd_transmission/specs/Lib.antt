pub mod Heads
pub mod Phases
pub mod Stages
pub mod Replies
pub mod Laws
pub mod Sessions
