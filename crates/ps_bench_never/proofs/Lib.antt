-- what a rules file asks, what is found of a rule, and its text
pub mod Marking
pub mod Matching
pub mod Runs
pub mod Pins
pub mod Joining
pub mod Alike
-- what is told of what is asked is so of what a rules file means
pub mod Meant
pub mod Pacing
pub mod Saying
pub mod Finding
pub mod JoiningAny
-- what `never` answered, and why the call stopped, by what it came to
pub mod Coming
-- of `same`: what inputs follow are inputs and outputs
pub mod Sharing
-- what is asked of both
pub mod Asking
-- what is found by the text of a rules file
pub mod SameFinding
-- the output that is named differs
pub mod Naming
-- what is told is so, and is read back
pub mod Verdicts
pub mod ScanBack
pub mod NameBack
pub mod CheckBack
pub mod CaseBack
pub mod CaseTaken
pub mod PlainNames
pub mod RulesBack
pub mod ToldBack
pub mod OutputNames
pub mod OutputBack
pub mod Accepted
-- how a call of `same` ends, by what stood before its parts
pub mod SameComing
