pub mod Visits
pub mod Placed
