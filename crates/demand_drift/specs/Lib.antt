pub mod Fields
pub mod Evaluates
pub mod TakenNear
pub mod OneDrift
