-- what a case expects, and what a recorder makes of the scans of its run
pub mod Expecting
pub mod Films
pub mod Seeing
pub mod Recorded
pub mod Lasting
pub mod Stopping
pub mod Played
-- what the scans of runs show of an application
pub mod Covering
-- the traces of cases are read as they were written, so that all is known of them
pub mod Alone
pub mod InputNames
pub mod Knowing
-- the scans that pictures show
pub mod Picturing
-- pieces that are added, cases and files that are shown, after others, and the text of their pages
pub mod Adding
pub mod Shown
-- lines with their numbers
pub mod Numbering
-- what a read leaves, and why a call stops by it
pub mod Reading
-- a case file that was read once
pub mod Once
-- how a call stops at a case file
pub mod Stopped
-- what comes of a call with an application
pub mod Coming
