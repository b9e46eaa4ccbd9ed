-- a machine, a channel as its callers see it, its own events, and what a compiler promises: what a reader must believe
pub mod Bytes
pub mod Progressing
pub mod Machines
pub mod StoredChannel
pub mod Keeping
pub mod Standing
pub mod Reporting
pub mod Channels
pub mod Carrying
pub mod Frames
pub mod Kinds
-- a seat of a world, what a channel that has ended gives of its scan, and which scans and restarts seats can run
pub mod Seats
pub mod Outcomes
pub mod Items
-- what a step reads of a signal, and at the pins of the call that it is: what a reader of the promise has to believe
pub mod Reading
pub mod Calls
-- the step that drives a signal
pub mod Drivers
-- apparatus: where a channel stands between events, literals at pins, and reads after writes
pub mod Phases
pub mod Limits
pub mod ReadingBack
