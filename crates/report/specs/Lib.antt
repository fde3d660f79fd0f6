pub mod Decimal
pub mod Report
pub mod Sheet
pub mod Page
