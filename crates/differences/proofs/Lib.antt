pub mod Membership
pub mod Changed
pub mod Replaced
