-- what a trace and a fault file say: what a reader of the clauses has to believe
pub mod Words
pub mod Header
pub mod Trace
pub mod Scans
pub mod Faults
pub mod FaultOrder
-- what the readers hold, and what their parts answer
pub mod Reading
pub mod Feeds
pub mod LineSays
pub mod HeaderSays
pub mod FaultSays
pub mod Channels
pub mod Leaving
pub mod Found
pub mod Heading
