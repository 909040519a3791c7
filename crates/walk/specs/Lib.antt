pub mod Entries
pub mod Piles
pub mod Lists
