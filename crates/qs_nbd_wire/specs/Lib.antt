pub mod Greetings
pub mod Options
pub mod Replies
pub mod Requests
pub mod Exports
pub mod Laws
