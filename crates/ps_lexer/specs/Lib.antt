-- What a reader believes: how tokens are spelt, what stands between them, and which tokens read a text.
pub mod Spelling
pub mod TimeLiterals
pub mod Gaps
pub mod Shapes
pub mod Reading
-- Apparatus: what the steps of the scanner answer.
pub mod Scanning
