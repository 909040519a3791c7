pub mod Tree
pub mod Rules
pub mod Kept
pub mod Moves
pub mod Heap
