pub mod Places
pub mod Forests
pub mod Rewritten
pub mod Standing
pub mod Theorems
pub mod Single
