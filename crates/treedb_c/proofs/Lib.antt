pub mod AsBox
mod Full
mod Live
mod Sought
mod Called
