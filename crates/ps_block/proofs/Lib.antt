pub mod Loading
pub mod Codes
pub mod SameCodes
pub mod Showing
pub mod Zeros
pub mod Reading
