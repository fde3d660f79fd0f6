pub mod Kind
pub mod Sides
pub mod Call
pub mod Laws
