pub mod Offers
pub mod Replies
pub mod Work
pub mod Tolls
pub mod Best
