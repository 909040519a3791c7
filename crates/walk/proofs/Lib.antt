pub mod Opens
pub mod Turns
pub mod Ranges
pub mod Visits
