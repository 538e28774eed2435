pub mod Plain
pub mod Words
pub mod Laws
pub mod Plays
pub mod Probe
pub mod PassLaws
pub mod Refused
