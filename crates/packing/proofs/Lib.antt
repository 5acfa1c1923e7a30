pub mod Outcomes
pub mod Model
