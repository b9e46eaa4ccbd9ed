pub mod Numbers
pub mod WordLemmas
pub mod PlainLemmas
pub mod SaidLemmas
pub mod HeaderLemmas
pub mod ScanLemmas
pub mod CopyLemmas
pub mod FaultLemmas
pub mod FaultOrderLemmas
pub mod WholeFile
pub mod LeavingLemmas
pub mod FoundLemmas
pub mod HeadingLemmas
mod GoingOn
