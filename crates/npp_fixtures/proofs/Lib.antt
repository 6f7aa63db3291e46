pub mod CoverLaws
pub mod RisingLaws
