-- The laws of whole components and binaries.
pub mod ComponentLaws
pub mod ModuleLaws
pub mod PlainLaws
pub mod WithinLaws
