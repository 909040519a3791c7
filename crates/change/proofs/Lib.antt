pub mod Stands
pub mod Founds
pub mod Weighs
