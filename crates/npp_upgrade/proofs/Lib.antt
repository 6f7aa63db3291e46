pub mod ShiftedLemmas
pub mod InstanceLemmas
pub mod UpgradedLemmas
pub mod LineLemmas
pub mod SpliceLemmas
pub mod UpgradeLemmas
pub mod EndLemmas
