pub mod AliasRows
pub mod ExternRows
pub mod InstanceRows
pub mod ComponentCanonical
pub mod TypeSpelling
pub mod ComponentNameRows
