pub mod Maps
pub mod Rows
pub mod Direct
pub mod Clauses
pub mod Streams
