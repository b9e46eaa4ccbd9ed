-- every text has a reading or a refusal, and an application or a certificate its judgement
pub mod Searching
pub mod Flow
pub mod Deriving
pub mod CertificateText
pub mod Deciding
pub mod Parsing
pub mod Spelling
pub mod TimeParts
pub mod Ends
pub mod Lexing
pub mod WellFormed
pub mod Sources
-- an accepted text by its own names
mod OfTexts
-- by names a source means what its application means
pub mod Walk
pub mod Drives
pub mod Outputs
pub mod Seen
pub mod Valued
pub mod KindsFound
pub mod EachStep
pub mod Declaring
pub mod Named
pub mod States
-- nested is flat
pub mod PathNames
pub mod Renamed
pub mod Inside
pub mod Plainly
pub mod FirstInputs
pub mod FineCalls
pub mod Spelt
pub mod Pairs
pub mod Together
pub mod Instances
pub mod Whole
pub mod WholeRuns
-- one map and one list of maps, and what they report
pub mod OneMap
pub mod OneRun
pub mod Reported
