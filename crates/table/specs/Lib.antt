pub mod Kids
pub mod Keys
pub mod Nodes
pub mod Spares
pub mod Reading
