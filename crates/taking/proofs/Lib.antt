pub mod Steps
pub mod Slots
pub mod Entered
pub mod Answers
pub mod Model
