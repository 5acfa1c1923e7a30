pub mod Filled
pub mod HeldRun
pub mod Model
