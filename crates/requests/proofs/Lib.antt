pub mod Laws
pub mod Every
pub mod Front
pub mod Long
pub mod Small
pub mod Said
