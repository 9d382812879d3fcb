-- Sections of a component in their frames, one by one, and all of them.
pub mod ComponentLoop
pub mod CustomFrames
pub mod EachComponent
pub mod EachSection
pub mod FrontLaws
pub mod NoHooks
pub mod RowsMapped
pub mod SectionAdded
pub mod SectionsAhead
