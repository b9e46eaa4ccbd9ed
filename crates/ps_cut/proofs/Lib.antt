-- a part that is checked: lists of copies from their ends, and drivers
mod Copying
-- the inputs of a scan of the whole
mod Fillings
-- what holds of a part: copies, a scan of the part, and its runs
mod Copied
mod Carried
mod Whole
-- a run at a pace as one at any times
mod Paced
-- a search of a part that came to its end, and at any times
mod Showing
mod Untiming
-- a run that is tried
mod Trials
-- a run of a part that is one of the application
mod Witnessed
