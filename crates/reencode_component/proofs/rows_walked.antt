-- Rows of a component's sections, and their parts.
pub mod EachShallowRow
pub mod FlatRows
pub mod OperandsWalked
pub mod PartsWalked
pub mod RowAdded
pub mod SectionItems
pub mod SortKept
