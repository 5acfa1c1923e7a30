pub mod Pieces
pub mod Below
pub mod Digits
