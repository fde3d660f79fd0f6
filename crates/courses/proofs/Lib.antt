pub mod Cases
pub mod Courses
pub mod Steps
pub mod Figures
