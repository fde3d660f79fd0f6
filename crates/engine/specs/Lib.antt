pub mod Pick
pub mod Budget
pub mod Bus
pub mod Made
pub mod Limit
pub mod Laws
