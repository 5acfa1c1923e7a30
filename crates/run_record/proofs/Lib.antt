pub mod Registers
pub mod FirstPlaces
pub mod Endings
