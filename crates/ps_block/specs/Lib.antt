-- What a reader must believe: what the answer of a step shows, and what one step is.
pub mod Shown
pub mod Stepping
-- Apparatus, in which code and proofs meet the tables: what sixteen bytes hold, and what the guards of a table see.
pub mod Images
pub mod Seeing
