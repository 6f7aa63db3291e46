pub mod Upgraded
pub mod Splice
pub mod Upgrade
