pub mod HeadLaws
pub mod Reading
pub mod Streams
pub mod ReplyLaws
pub mod Histories
