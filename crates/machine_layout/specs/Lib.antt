pub mod Layout
pub mod Kinds
pub mod Record
pub mod Fits
