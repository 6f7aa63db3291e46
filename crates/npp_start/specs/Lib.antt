pub mod Allowed
pub mod Walks
pub mod Start
