pub mod Positions
pub mod Changed
pub mod Tree
pub mod Laws
