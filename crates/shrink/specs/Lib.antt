pub mod Joins
pub mod Removes
pub mod Lowers
