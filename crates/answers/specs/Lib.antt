pub mod Rows
pub mod Calls
pub mod Runs
pub mod Within
pub mod Steps
pub mod Unique
pub mod Worked
