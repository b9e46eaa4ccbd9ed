-- what `report` writes, and how it stops: what a reader of the clauses has to believe
pub mod Results
pub mod Sections
pub mod Asking
-- its contents, the sentences in it, the numbers of its lines, what names its files, and what is told of an application
pub mod Contents
pub mod Texts
pub mod Numbered
pub mod Digests
pub mod Telling
pub mod Known
pub mod Covered
-- apparatus: how calls end that read files, run their cases, and write a page
pub mod Running
-- markup: the names of elements and attributes
pub mod Names
-- a page by its pieces
pub mod Paged
-- pieces that stand together, and the text of pieces
pub mod Pieces
pub mod Parts
pub mod Writing
-- words, lines and bands of pictures
pub mod Picture
-- the rows of tables, what a case expects, and what a recording holds of its run: what a reader of the clauses has to believe
pub mod Files
pub mod CaseRows
pub mod Marks
pub mod Recording
-- timing diagrams, and what they show of a case
pub mod Diagram
pub mod Changes
pub mod Scale
pub mod Ground
pub mod Sheets
pub mod Played
-- what a recorder makes of the outcomes of a run
pub mod Recorder
pub mod Taking
pub mod Filmed
