-- the items of a trace that were read, and those that are left
mod Leading
-- steps that are recorded one after another, and what is then known of them
mod Stepping
mod Recorded
-- no trial is wrong
mod Rightly
-- how a trial goes on from step to step
mod Going
-- where the run without a fault may be left and come back to
mod Marking
-- a trial that begins and ends there
mod Early
-- a trial in a world of its own
mod Trying
-- trials that are counted, also in parts
mod Counting
mod Parts
-- a call that fails
mod Failing
-- what comes of a call with an application
mod Coming
-- the course of a trace that is held, and of what a word means
mod Keeping
-- the lines of faults, one after another
mod Numbered
-- what is reported of the trials
mod Ending
-- counts that are added and written
mod Summed
-- what a call leaves of files and of an output
mod Leaving
