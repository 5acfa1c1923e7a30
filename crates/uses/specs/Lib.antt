pub mod Columns
pub mod Uses
