-- machines and channels: what is read after writes, code and cells, and a scan event by event
pub mod Places
pub mod Phases
pub mod Reports
pub mod Timing
pub mod KindsByNumber
pub mod Walks
pub mod FreePins
pub mod Bits
pub mod Opcodes
pub mod Encoding
pub mod Parts
pub mod Fine
pub mod PastPins
pub mod CalledOnce
pub mod Fitting
pub mod Instances
pub mod Carrying
pub mod Lent
pub mod Blank
pub mod Scans
pub mod Totals
pub mod Motor
pub mod CalledSignals
pub mod Progressing
-- a seat after several turns, the sizes of its reports, and the turns that it has left
pub mod Turning
pub mod Sized
pub mod Left
-- the step at which a signal gets its value, and the one that calls an instance
pub mod Steps
-- pins as bits
pub mod Bitwise
-- what is read of the states of a scan
pub mod Between
