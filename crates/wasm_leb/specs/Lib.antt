pub mod Laws
pub mod Leb
pub mod Place
