pub mod Answers
pub mod Steps
pub mod Split
pub mod Model
pub mod First
pub mod Passes
pub mod Waits
