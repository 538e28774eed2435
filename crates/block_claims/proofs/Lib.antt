pub mod Sums
pub mod Rising
pub mod Steps
pub mod Moves
pub mod Gathering
pub mod Drawn
