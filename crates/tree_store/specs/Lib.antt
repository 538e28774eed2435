pub mod Vectors
pub mod Store
pub mod Ranges
pub mod Reading
