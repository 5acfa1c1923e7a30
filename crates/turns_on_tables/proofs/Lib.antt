pub mod Arrays
pub mod Whole
