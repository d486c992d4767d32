pub mod Shapes
pub mod Walk
