pub mod Refused
pub mod Unsettled
pub mod Model
