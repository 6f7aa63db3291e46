pub mod Order
pub mod Lists
pub mod Search
pub mod Useful
pub mod Covers
