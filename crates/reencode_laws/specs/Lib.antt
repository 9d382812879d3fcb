pub mod Own
pub mod Kept
pub mod Chained
pub mod SectionVisits
