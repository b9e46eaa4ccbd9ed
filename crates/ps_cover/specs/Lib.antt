-- what one block can do alone: what a reader of the promise has to believe
pub mod Marks
pub mod Alone
pub mod Timed
pub mod Applying
-- pins that have one value: what a reader of the clauses has to believe
pub mod Fixed
-- what a set of traces has shown: what a reader of the promise has to believe
pub mod Points
pub mod Listing
pub mod Shown
pub mod Excluding
pub mod Tallying
pub mod Tallied
-- values that decide, what is missed, and the time between two scans
pub mod Deciding
pub mod Missing
pub mod Clock
-- a block alone without times, and what a search says of it
pub mod Timeless
pub mod Searched
-- what the code keeps of a scan
pub mod Blocks
pub mod Covering
pub mod Covers
-- what is reported of what traces have shown, and of what they have not: what a reader of the promise has to believe
pub mod Seen
pub mod Lines
pub mod Text
-- and that it is so of traces
pub mod OfTraces
-- pieces of the report, and how they are put together
pub mod Said
pub mod Telling
