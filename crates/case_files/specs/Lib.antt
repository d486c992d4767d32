pub mod Paths
pub mod Results
