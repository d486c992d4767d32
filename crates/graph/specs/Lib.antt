pub mod Assembly
pub mod Translation
pub mod Yields
pub mod Fit
pub mod Tests
