pub mod Rises
pub mod Nodes
pub mod Keeps
pub mod Passed
