pub mod Named
pub mod Steps
pub mod Model
