pub mod Lists
pub mod LastUses
