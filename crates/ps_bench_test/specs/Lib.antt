-- what `test` runs, reports and answers: what a reader of the clauses has to believe
pub mod Testing
-- what calls leave that stop
pub mod Stopping
-- what is reported of results, in its three forms: what a reader of the clauses has to believe
pub mod Failing
pub mod Lines
pub mod Tap
pub mod Junit
pub mod Report
-- what readers of TAP and of XML make of it
pub mod Reading
-- names and values in words, statements by their lines, and a case that was run
pub mod Naming
pub mod Placing
pub mod Outcome
