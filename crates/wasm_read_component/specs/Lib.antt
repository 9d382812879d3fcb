pub mod Aliases
pub mod ComponentNames
pub mod ComponentPayloads
pub mod ComponentRows
pub mod Scoped
pub mod TypeRows
