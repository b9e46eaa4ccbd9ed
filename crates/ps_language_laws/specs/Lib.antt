-- what is claimed of an accepted text by its own names: what a reader believes
pub mod Texts
-- what paths are, what a body reads, the equations of its statements, what a scan of a text means, and how a state is
-- seen by names: what a reader believes
pub mod Paths
pub mod Reading
pub mod Equations
pub mod TextScans
pub mod ByName
-- what a scan of a text with function blocks means, what runs of scans mean, which maps are alike and what they report,
-- and the laws
pub mod Nested
pub mod Runs
pub mod Maps
pub mod Laws
