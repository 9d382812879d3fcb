-- The visits that were made when an error came, and the state that they left.
pub mod BodyVisited
pub mod BytesVisited
pub mod NoneOrAllVisited
pub mod RowsVisited
pub mod SectionVisited
pub mod StateLeft
pub mod VisitsMade
