pub mod Drains
mod Pass
