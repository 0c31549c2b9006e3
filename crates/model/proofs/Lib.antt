pub mod Computed
pub mod Curves
pub mod Searches
pub mod Rule
pub mod Sound
pub mod SlotRule
pub mod Reaching
pub mod Soundness
pub mod Turns
pub mod Responses
pub mod Counts
pub mod HistoryLaws
pub mod CountBounds
pub mod Reached
mod Busy
mod BusyRelease
mod BusyDemand
mod BusySlot
mod NeverLate
mod JobCounts
mod FullReleases
mod WorstHistory
mod WorstLines
mod WorstReleases
mod Covered
mod WorstSlots
mod OnTimeAccepted
mod DemandLaws
mod RuleCases
mod Drives
pub mod Forgetting
pub mod DeadlineTheorem
