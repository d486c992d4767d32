pub mod Told
pub mod ToldBody
