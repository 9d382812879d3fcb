-- Rows of sections: read, walked and added one by one.
pub mod CompactRows
pub mod DataRow
pub mod EachItem
pub mod EachRow
pub mod ElementWalks
pub mod OneRow
pub mod RowLoop
pub mod RowsToEnd
pub mod SmallCounts
pub mod TypeGroup
pub mod TypeRow
