pub mod Cases
pub mod Places
pub mod Frames
pub mod Steps
