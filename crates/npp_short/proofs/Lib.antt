pub mod Order
pub mod KeyOrder
pub mod Offering
pub mod Partial
pub mod Waiting
pub mod Nearest
pub mod Following
