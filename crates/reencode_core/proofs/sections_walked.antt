-- Sections in their frames, by kind, one by one, and all of a module.
pub mod AnySection
pub mod BytesMade
pub mod CoreLoop
pub mod CustomSection
pub mod EachSection
pub mod HeadAndFrame
pub mod KnownKind
pub mod MappedSection
pub mod OneSection
pub mod WholeBytes
