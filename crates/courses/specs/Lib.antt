pub mod Pick
pub mod Course
pub mod Run
pub mod Figures
