pub mod Hexes
pub mod Newlines
pub mod Digits
