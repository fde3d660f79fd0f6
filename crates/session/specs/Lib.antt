pub mod Desk
pub mod Session
pub mod Output
pub mod Loop
pub mod Laws
pub mod Worked
