pub mod Dialogue
pub mod Bench
