pub mod Refusals
pub mod Stations
pub mod Agreement
