-- what a person is told of a call that stopped: what a reader of the clauses has to believe
pub mod Telling
-- what a command remarks while it runs
pub mod Remarking
