pub mod Command
pub mod Choose
pub mod Matches
pub mod Rules
pub mod Valid
pub mod Sizes
