-- Sections that are added to the core modules inside a component.
pub mod Completeness
pub mod ComponentWalk
pub mod WovenInLaws
