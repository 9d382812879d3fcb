-- The visits that were made when an error came.
pub mod RowsVisited
pub mod SectionsDrawn
