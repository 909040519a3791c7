pub mod Picks
pub mod Heights
pub mod Pulls
pub mod Pushes
pub mod Settles
pub mod Spared
pub mod Degrees
pub mod Standings
