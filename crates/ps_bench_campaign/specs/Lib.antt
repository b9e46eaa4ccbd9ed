-- what a trial comes to, and that none is wrong; the trials of a campaign
pub mod Showing
pub mod Right
pub mod Campaigns
pub mod Parts
-- faults as lines of a fault file
pub mod Printing
-- what `campaign` is asked, what it writes by that, and how it stops
pub mod Asking
-- what `sum` writes, and how it stops
pub mod Summing
-- what the course of a trace is
pub mod Courses
-- where a trial may begin and end early
pub mod Marks
-- apparatus: what the trials of a campaign run on
pub mod Bench
-- apparatus: the trace that was read, by what is kept of it
pub mod Recorded
-- apparatus: what a call leaves of files and of an output
pub mod Leaving
-- what a listener hears of it while it runs
pub mod Remarking
