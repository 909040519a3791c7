pub mod Each
pub mod Keys
pub mod Sets
pub mod Laws
pub mod Scans
