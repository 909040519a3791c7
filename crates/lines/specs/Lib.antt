pub mod Limits
pub mod Digits
pub mod Grammar
