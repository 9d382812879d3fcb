-- The subsections of the names of a component.
pub mod NameCalls
