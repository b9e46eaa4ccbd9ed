-- what trials draw, and the faults that they make: what a reader of the promise has to believe
pub mod Trials
pub mod Faults
-- the scans and restarts of a course, and when its scans are
pub mod Steps
pub mod Times
-- the byte that a fault leaves
pub mod Bytes
-- what a trial comes to, and what is counted in a line
pub mod Outcomes
pub mod Lines
-- what is counted of trials, in parts and in any order
pub mod Tallies
pub mod Adding
pub mod Laws
-- the counts as text
pub mod Telling
pub mod Possible
pub mod Plain
-- how a text is named
pub mod Naming
-- what a campaign writes
pub mod Totals
-- how it is read again and added, in any order
pub mod Sums
pub mod Files
pub mod SumLaws
