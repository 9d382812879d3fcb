-- The subsections of a name section, and maps of names.
pub mod EachSubsection
pub mod EntriesAhead
pub mod FormatLaws
pub mod MapCalls
pub mod MapLoops
pub mod SubsectionLoop
