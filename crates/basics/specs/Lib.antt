-- Scans of numbers, sets of routes, books, and the search under a number.
pub mod Scan
pub mod RouteSets
pub mod Books
pub mod Adding
pub mod Lookup
