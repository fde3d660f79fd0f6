pub mod Cases
pub mod Laws
pub mod Feed
pub mod Lies
