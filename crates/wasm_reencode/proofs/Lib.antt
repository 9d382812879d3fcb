pub mod CodeBodies
pub mod Lines
pub mod ListedSections
pub mod Places
pub mod StaleNames
pub mod StripDecides
pub mod StripEnds
pub mod Told
pub mod Trees
pub mod Wrong
mod VisitsTold
