-- what is watched of a run, and what is written of it: what a reader of the clauses has to believe
pub mod Naming
pub mod Showing
pub mod Asking
-- what `trace` writes of an application and a log, and how it stops
pub mod Tracing
-- what `live` writes of a stream, how it stops, and that `run` and `fault`, and by name `watch`, write the same: what a
-- reader of its clauses has to believe
pub mod LiveAsking
pub mod Living
pub mod Fault
pub mod Watch
-- the lines of a stream, those of a trace that comes so, and what comes of each
pub mod Streams
pub mod Streaming
pub mod Saying
pub mod Came
pub mod Coming
-- what the wires of a run are called
pub mod Wires
-- what a reader of value changes is to see
pub mod Reread
-- what a reader of CSV and of JSON is to see, and what it gives of a text
pub mod Rows
pub mod Objects
-- what a log of a run keeps of it, which names it can tell apart, and that the run is read back from it
pub mod Logged
pub mod Retraced
-- what is done of the lines of a stream, and by whom, what that leaves, and how a run over them ends
pub mod Answering
pub mod Telling
pub mod Leaving
pub mod Ending
-- apparatus: the line of a refusal, and a run before its first scan
pub mod Stopping
pub mod Prepared
-- apparatus: what readers of lines hold, and what contracts see of a stream in memory and of one of the system
pub mod Reading
pub mod Feeding
pub mod InMemory
pub mod System
-- what a listener hears of `watch` while it runs
pub mod Remarking
