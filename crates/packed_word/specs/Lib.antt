pub mod Word
pub mod Slice
pub mod Laws
