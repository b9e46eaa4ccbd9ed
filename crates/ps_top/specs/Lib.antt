-- what the program has to say, and what a call does that is asked to say it: what a reader of the clauses has to
-- believe
pub mod Asking
pub mod Program
pub mod Lines
pub mod Meets
pub mod Calls
pub mod Skeletons
pub mod Untripped
-- what the parts of a command do
pub mod Leaving
pub mod Opening
pub mod Sourcing
pub mod Refusing
pub mod Running
pub mod Resting
pub mod Judging
