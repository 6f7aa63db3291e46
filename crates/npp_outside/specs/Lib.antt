pub mod Causes
pub mod Failing
pub mod Shelf
pub mod Sink
