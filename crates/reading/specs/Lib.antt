pub mod Pick
pub mod Parts
pub mod Reading
