-- what comes of the items of a trace, and its lines: what a reader of the clauses has to believe
pub mod Outcomes
pub mod Lines
pub mod Written
-- the loop over the items, and what cuts it short
pub mod Doing
pub mod Cutting
pub mod Running
-- who performs them: worlds that faults strike, and the plain evaluator
pub mod Tripping
pub mod Performing
pub mod Resting
pub mod Again
pub mod Seats
pub mod Watching
-- who takes what comes of them
pub mod Counting
