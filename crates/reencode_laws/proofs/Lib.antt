pub mod Twice
pub mod Runs
pub mod Kept
pub mod Itself
pub mod Written
pub mod Walked
pub mod SectionVisits
