pub mod Replies
pub mod Putting
