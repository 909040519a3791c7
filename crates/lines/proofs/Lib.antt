pub mod Writing
pub mod Cuts
pub mod Sayings
pub mod Readings
