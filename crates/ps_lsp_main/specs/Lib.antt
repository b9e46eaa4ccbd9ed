-- what the server writes for a whole stream, and how it ends: what a reader of the clauses has to believe
pub mod Streaming
pub mod Endings
