pub mod Signed
pub mod Back
