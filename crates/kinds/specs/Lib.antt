pub mod Order
pub mod Weight
pub mod Code
pub mod Meaning
pub mod Kinds
pub mod Weights
pub mod Orders
pub mod Codes
