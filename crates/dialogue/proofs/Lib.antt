pub mod Kept
pub mod Laws
pub mod Lines
pub mod Machine
pub mod EachLine
pub mod Room
pub mod Whole
