pub mod FieldBits
pub mod Parts
pub mod Flags
pub mod Numbers
