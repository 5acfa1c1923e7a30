pub mod Flagged
pub mod Model
