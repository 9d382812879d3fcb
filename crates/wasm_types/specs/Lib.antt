pub mod ComponentTrees
pub mod Immediates
pub mod Types
