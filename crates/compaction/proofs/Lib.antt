pub mod Moves
pub mod Places
pub mod Model
