pub mod Kept
pub mod Model
