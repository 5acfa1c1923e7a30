pub mod Acts
pub mod Replaced
pub mod Relied
pub mod Model
pub mod Outcomes
pub mod Steps
