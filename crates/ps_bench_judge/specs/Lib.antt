-- when an expectation holds of a run: what a reader of the clauses has to believe
pub mod Holding
-- which cases passed, how many failed, and which lines are from a line on
pub mod Passed
-- what is seen of a scan, whose values are looked at, and what is seen of a run: what a reader of the clauses has to
-- believe
pub mod Moments
pub mod Named
pub mod Runs
-- what a case asks for, what is seen of it, and by what it is judged: what a reader of the promise has to believe
pub mod CaseRuns
-- apparatus: what a judge still owes, and where a rig stands between two scans
pub mod Owing
pub mod Rigs
