pub mod Listing
pub mod Names
pub mod Refused
pub mod Shown
pub mod Text
