pub mod Numbers
pub mod Kinds
pub mod RustBench
pub mod Retired
pub mod LineByLine
