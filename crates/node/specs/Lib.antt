pub mod Ahead
pub mod Marks
pub mod Outcomes
pub mod Reports
pub mod Sessions
pub mod Starts
pub mod Turns
