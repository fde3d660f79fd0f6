pub mod Costs
pub mod Waits
pub mod Worked
