pub mod Numbers
pub mod Entries
pub mod Items
pub mod Carried
pub mod Outcomes
