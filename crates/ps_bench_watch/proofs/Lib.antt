-- what a run writes, and how a call for it ends
mod WatchEnding
mod Dumping
mod Playing
mod Called
mod WatchComing
-- what `trace` answers, and why it stops, by what it came to
mod Recorded
-- what is written of a run is what a reader is to see
mod Digits
mod Rereading
mod Rowing
mod Objecting
-- the bytes of fields, and fields with commas between them
mod Bytes
mod Cutting
-- lists, and where one element passes a test
mod Lists
-- what stands for names, and where a header has its columns
mod Labels
mod Columns
-- how long a row is, and what it says
mod Sizes
mod Rows
-- the log of a run means its scans, and its trace is read back
mod Whole
mod Back
-- of `live`: the lines of a stream, what they say, and what is done of them
mod LiveSizes
mod Held
mod Feeds
mod WatchSaying
mod Told
mod Quiet
mod Going
-- how a run of a stream ends, and that it is that of a file
mod Stops
mod Ran
mod Watched
-- how a call of `live` ends, by what it came to
mod LiveComing
-- what is remarked of words that mean nothing
mod Remarked
