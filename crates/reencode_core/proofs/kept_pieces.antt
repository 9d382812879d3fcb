-- Pieces: made bytes between ranges of the input that are kept.
pub mod CodeRowsHeld
pub mod CutBytes
pub mod FilledRoom
pub mod FreshSink
pub mod KeptAnswers
pub mod KeptFrames
pub mod KeptLaws
pub mod KeptLengths
pub mod KeptRanges
pub mod SectionLoop
pub mod SectionsHeld
pub mod StandsAt
