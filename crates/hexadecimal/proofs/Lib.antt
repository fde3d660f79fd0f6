pub mod Cases
pub mod Laws
pub mod Inverse
pub mod Digits
