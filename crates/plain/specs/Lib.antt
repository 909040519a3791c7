pub mod Points
pub mod Set
pub mod Windows
pub mod Refused
pub mod Laws
pub mod Examples
