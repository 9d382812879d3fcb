pub mod Aliases
pub mod ComponentBytes
pub mod ComponentNames
pub mod ComponentRows
pub mod TypeRows
