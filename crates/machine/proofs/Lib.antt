pub mod Settings
pub mod Form
pub mod Step
pub mod Frame
pub mod Lists
pub mod Entries
