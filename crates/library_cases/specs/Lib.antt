pub mod Additions
pub mod Refusing
