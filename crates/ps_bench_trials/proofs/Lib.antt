-- two lists together, place by place
pub mod Upto
-- texts that grow by numbers, one after another
pub mod Growing
-- lists that are added, and what is counted of trials in parts
pub mod TallyAdding
-- numbers together, the columns of latencies, and lines whose latencies some trips have
mod Weighing
mod Columns
mod Fitting
-- counts that trials have, all of which their text says
pub mod Plain
-- what names a text that is held
mod Held
-- files that are added one after another
pub mod Behind
-- files that are added in any order
pub mod Orders
