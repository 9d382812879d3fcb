-- Core types and types of components, with the scopes that they open.
pub mod CoreGroups
pub mod CoreTypeCalls
pub mod ScopeCalls
pub mod StreamedScopes
pub mod TypeParts
pub mod TypeWeights
pub mod TypesBehind
pub mod TypesStanding
