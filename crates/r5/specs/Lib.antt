pub mod Voltage
pub mod Plans
