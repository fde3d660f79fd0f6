pub mod Laws
pub mod Any
