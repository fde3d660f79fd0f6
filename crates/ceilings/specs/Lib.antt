pub mod Reports
pub mod Ceilings
pub mod Sharp
