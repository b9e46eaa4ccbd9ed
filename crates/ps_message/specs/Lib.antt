-- the message of a refusal, the line of a note, and the messages of calls that end without a refusal: what a reader of
-- the clauses has to believe
pub mod Message
pub mod NoteLine
pub mod Ending
-- what a listener heard
pub mod Hearing
