pub mod Turning
pub mod Buckets
