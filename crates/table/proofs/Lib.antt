mod Steps
pub mod Setups
mod Walks
mod Checks
pub mod Once
mod Numbers
mod Records
mod Files
