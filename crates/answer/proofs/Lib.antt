-- Laws, by topic.
-- document 01's example through the calls
pub mod Computed
-- questions met and not met; what an accepted file's table and names are like; values as bits
pub mod Questions
pub mod Acceptance
pub mod Bits
-- the calls, part by part
pub mod Answered
pub mod Showing
pub mod Outcomes
