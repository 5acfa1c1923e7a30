pub mod Cases
pub mod Parts
pub mod Tabulate
pub mod Filled
pub mod Checks
pub mod Bits
pub mod Places
