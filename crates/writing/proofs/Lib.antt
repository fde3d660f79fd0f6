pub mod Shown
pub mod Rest
