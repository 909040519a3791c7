pub mod Shape
pub mod Settles
