-- what a rules file asks: what a reader of the clauses has to believe
pub mod Wanted
pub mod Asked
pub mod Meant
-- what `never` is asked, what it writes by that, and how it stops
pub mod Asking
-- what `never` says: what a reader of the promise has to believe
pub mod Pieces
pub mod Casing
pub mod Telling
pub mod Answering
-- a rules file with one rule alone, and what it says of a rule that holds by a part of the application
pub mod Single
pub mod ByPart
-- what it says if scans come at any times: what a reader of the promise has to believe
pub mod TellingAny
pub mod AnsweringAny
-- the law: cases some ms apart among those at any times
pub mod Whenever
-- what `same` is asked, what it writes by that, and how it stops
pub mod SameAsking
-- what `same` says: what a reader of the promise has to believe
pub mod Likeness
pub mod SameTelling
pub mod SameAnswering
-- the law: the output that is named differs
pub mod Naming
-- the laws of both: what is told is so, and an open rule is told with its cause; a case that is told is read as its scans
pub mod Verdicts
pub mod ReadBack
