pub mod Masks
pub mod Counts
pub mod Walk
pub mod Sets
pub mod Numbers
