pub mod Residuals
pub mod Places
