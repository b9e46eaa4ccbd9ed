-- messages in a stream, and requests and answers: what a reader of the clauses has to believe
pub mod Frames
pub mod Rpc
-- what is written, and what reading takes
pub mod Sending
pub mod Streams
