pub mod Scans
pub mod Adds
