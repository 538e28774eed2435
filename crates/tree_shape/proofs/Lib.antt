pub mod Places
pub mod Trees
pub mod Sets
pub mod Climbs
pub mod Passes
