-- What a reader believes: which trees there are, how each is spelt, what a language and its refusals are, what the
-- parser answers, and the places of steps.
pub mod Names
pub mod Tree
pub mod Symbol
pub mod Spelt
pub mod Whole
pub mod Language
pub mod Parsing
pub mod Places
-- The trees for which the values of the program stand.
pub mod SumView
pub mod ArgumentView
pub mod StatementView
pub mod SourceView
pub mod Pins
pub mod TreeCode
-- Apparatus: the phrases of which the grammar is made, and what the functions that read one answer.
pub mod Phrase
pub mod Grammar
pub mod Parses
