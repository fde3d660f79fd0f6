pub mod Laws
pub mod Kept
pub mod Long
pub mod EachTurn
pub mod Chunks
pub mod Whole
pub mod Loop
