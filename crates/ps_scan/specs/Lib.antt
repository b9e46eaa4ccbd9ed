-- what a scanner keeps, for which state it stands, and what a scan makes of it: what a reader must believe
pub mod Cells
pub mod Scan
-- for which state the state of an instance's block stands: what a reader must believe
pub mod Instances
-- apparatus: where a scan is after its first steps
pub mod Midway
