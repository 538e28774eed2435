pub mod Views
pub mod Lines
pub mod Looks
pub mod PassLaws
