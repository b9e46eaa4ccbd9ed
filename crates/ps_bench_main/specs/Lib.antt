-- what a call does that did what its words ask: what a reader of the clauses has to believe
pub mod Answering
-- what the listener hears of it
pub mod Hearing
