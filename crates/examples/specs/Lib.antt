pub mod Behind
pub mod Below
pub mod Counter
pub mod Marks
pub mod Moves
pub mod Stripper
pub mod Widened
