-- What a reader of the promise has to believe: which row fits first, the rows themselves, the conditions that they are
-- masks over, what they are to decide, and what a step leaves.
pub mod Fitting
pub mod Rows
pub mod Names
pub mod Decision
pub mod Viewed
pub mod Counted
pub mod Kinds
-- Apparatus: the place of a state's rows as a test that is computed.
pub mod Placed
