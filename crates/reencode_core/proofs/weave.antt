-- Sections that the hooks of a reencoder add.
pub mod AddingHooks
pub mod AdditionsFit
pub mod AddsNothing
pub mod Completeness
pub mod Interspersing
pub mod Weaves
pub mod WovenReading
