pub mod Hashing
pub mod Cutting
