-- In reading order: what each call answers and changes (those of the board stand in the crate below), the entries of a list, lists
-- and duties, what a host is shown, the law of a duty, how a route is brought home, and what contracts say of a frame over any block.
pub mod Calls
pub mod Entries
pub mod Runs
pub mod Questions
pub mod Law
pub mod Home
pub mod Views
