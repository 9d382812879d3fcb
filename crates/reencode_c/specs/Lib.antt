pub mod Ends
pub mod Entries
pub mod Outputs
pub mod Places
pub mod Refusals
pub mod Tools
pub mod Visits
