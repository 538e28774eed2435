pub mod Numbers
pub mod Shares
pub mod Rule
pub mod Plays
pub mod Drawers
pub mod Seats
pub mod Laws
