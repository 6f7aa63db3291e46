pub mod Evaluated
pub mod Refused
pub mod Text
