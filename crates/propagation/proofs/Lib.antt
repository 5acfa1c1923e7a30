pub mod Propagates
