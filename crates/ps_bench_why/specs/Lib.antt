-- what `why` is asked, what it writes by that, and how it stops: what a reader of the clauses has to believe
pub mod Asking
-- the scans of a run, and the one that a time picks
pub mod Scanned
-- what is kept of the last scan
pub mod Looking
-- what a question asks of a scan, and when a text says why it is so
pub mod Reasoned
-- when a scan was, for what a state waits, a fact of the scan in words, and all that is written: what a reader of the
-- clauses has to believe
pub mod Moments
pub mod Waiting
pub mod Facts
pub mod Trees
pub mod Because
-- what a listener hears of `why` while it runs
pub mod Remarking
-- apparatus: what is kept from scan to scan, and the scan that was found, by what is kept of it
pub mod Walking
pub mod Walked
-- apparatus: lines that are still to be written
pub mod Pending
