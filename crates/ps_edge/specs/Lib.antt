-- what a call does, from its words to its exit status, and the numbers of the statuses: what a reader of the clauses
-- has to believe
pub mod Doing
pub mod Exit
-- what a person is told of a call, and what is heard of it
pub mod Telling
pub mod Heard
pub mod Hearing
pub mod Listening
-- which word of a call names the text of a rule
pub mod Spoken
-- a call over the system, and one in memory
pub mod System
pub mod InMemory
