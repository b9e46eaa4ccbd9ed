-- what stands for a name, how a value is shown, what is watched, and the lines of the formats: what a reader of the
-- promise has to believe
pub mod Shown
pub mod Names
pub mod Lines
-- a value that is watched; what marks the next scan, and its number
pub mod Fields
pub mod Marks
pub mod Counts
-- what is written of a whole run
pub mod Watching
pub mod Watched
-- what a wire has and whether it is written, and what a wire is called in a dump
pub mod Values
pub mod Identifiers
-- what the wires of a run are about, what they have in a scan, and the value changes of a whole run
pub mod Parts
pub mod Dumped
-- what the value changes of wires are as text, and what a reader gives of such a text
pub mod Text
pub mod Reading
pub mod ReadBack
-- the declarations of wires as text
pub mod Declarations
-- apparatus: a line in its room, the room of a line, who watches, who writes value changes, how values are come by, and
-- how contracts see a writer
pub mod LineTexts
pub mod Room
pub mod Watcher
pub mod Dumping
pub mod Reads
pub mod DumpWriter
