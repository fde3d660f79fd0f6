pub mod Digits
pub mod Said
pub mod Sheet
pub mod Count
pub mod Ahead
