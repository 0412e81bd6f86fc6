pub mod Inquiries
pub mod Wishes
pub mod Phases
pub mod Answers
pub mod Stages
pub mod Laws
pub mod Sessions
