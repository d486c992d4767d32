pub mod Fronts
pub mod Tests
