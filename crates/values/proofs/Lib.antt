pub mod Known
pub mod Seen
pub mod Parts
pub mod Model
