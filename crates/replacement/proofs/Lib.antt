pub mod Made
pub mod Replaces
