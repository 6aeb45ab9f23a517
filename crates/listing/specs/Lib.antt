-- In reading order: the calls on the lines of an input, entries as lines, and the whole listing.
pub mod Calls
pub mod Lines
pub mod Listing
