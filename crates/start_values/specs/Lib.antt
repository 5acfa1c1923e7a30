pub mod StartValues
