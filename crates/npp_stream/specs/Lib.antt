pub mod Refusals
pub mod TextVerdicts
pub mod Stream
