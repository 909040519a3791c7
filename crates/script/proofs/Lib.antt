pub mod Hex
pub mod Running
pub mod Once
pub mod ReadBack
