pub mod Packs
pub mod Lines
pub mod Reports
pub mod Unread
pub mod Pieces
pub mod Tells
pub mod Count
pub mod Worked
