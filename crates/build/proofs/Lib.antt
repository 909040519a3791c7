pub mod Rows
pub mod Leaves
pub mod Turns
pub mod Levels
pub mod Roots
