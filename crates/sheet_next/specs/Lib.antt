pub mod Found
pub mod Next
pub mod Walked
