pub mod OutcomeText
pub mod Handed
