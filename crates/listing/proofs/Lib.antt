pub mod Noting
pub mod Plans
pub mod Loading
