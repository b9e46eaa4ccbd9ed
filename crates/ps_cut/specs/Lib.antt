-- which networks are parts of an application, and what is asked of one: what a reader of the laws has to believe
pub mod Parts
pub mod Asking
-- what is cut for a rule
pub mod Cutting
-- the laws: what holds of a part holds of the whole
pub mod Promised
-- by which part a rule holds
pub mod Proving
-- a run that is tried
pub mod Trying
-- the inputs of a scan of the whole, from those of its part
pub mod Filling
