pub mod Allowed
pub mod TollsText
pub mod Refused
