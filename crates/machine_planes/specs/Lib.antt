pub mod Planes
pub mod PlaneBytes
pub mod PlaneOthers
