pub mod Fields
pub mod Outcome
pub mod Request
pub mod Retired
pub mod Figures
