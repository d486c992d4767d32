pub mod Cases
pub mod Pushed
