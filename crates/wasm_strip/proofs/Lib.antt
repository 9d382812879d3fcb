pub mod Adding
pub mod Lengths
pub mod Malformed
pub mod NameRows
mod ComponentNameRows
pub mod OneSection
pub mod Readings
pub mod SortedLengths
pub mod SortedRows
pub mod Unread
