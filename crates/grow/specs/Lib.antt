pub mod Grown
pub mod Split
pub mod Planted
