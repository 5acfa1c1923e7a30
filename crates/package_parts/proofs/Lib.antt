pub mod Totals
pub mod Lengths
