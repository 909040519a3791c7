pub mod Leaves
pub mod Stages
