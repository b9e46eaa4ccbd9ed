-- what a rules file says: what a reader of the clauses has to believe
pub mod Parts
pub mod Words
pub mod Line
pub mod File
pub mod Standing
-- what the parts of the reader answer
pub mod Saying
