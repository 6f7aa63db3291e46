pub mod Numbers
pub mod Accepted
