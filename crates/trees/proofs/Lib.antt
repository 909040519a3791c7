pub mod Forests
pub mod Bares
pub mod Each
