pub mod Readies
pub mod Leaves
pub mod Forked
pub mod Splits
pub mod Overflows
pub mod Plants
pub mod Stands
