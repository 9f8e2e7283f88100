-- The values first. Then in the order of reading, each on those before it.
pub mod Computing
pub mod Values
-- six series of calls, computed
pub mod Computed
-- the licence of a house as a number, and the sum that it keeps within 4,096
pub mod Licence
-- parts of tables that are eight times as long
pub mod Parts
-- lists within a limit
pub mod Within
-- the pipes that remain always land; what they leave, and the report
pub mod Removal
-- what a call does to its house
pub mod Effects
-- eight houses as the calls alone settle them, and what bars a call then
pub mod State
-- what a call does to them
pub mod Kept
-- demand 3, for every series of calls
pub mod Whole
-- the last clearing of a house
pub mod Clearing
-- calls that do not clear a house land more behind what was there
pub mod Onwards
-- how often one vertex is relabelled since then
pub mod Times
-- 21 holds in no series; a call for one house changes no answer of another
pub mod InSeries
-- calls over whatever is lent: what bars them, and that one house leaves the others
pub mod Gate
-- 21, in the words of the paper
pub mod Damaged
-- and the houses that are held where nothing bars them
pub mod Holding
-- the licence
pub mod OnLicence
-- a call for one house alters no sheet of another
pub mod Sheets
-- removals
pub mod Taking
-- quotes and commits
pub mod Quoting
-- what `write` answers, grown
pub mod Writing
-- opened sheets, fetched line by line with calls between; and when they are ended
pub mod Fetching
-- .. proved
pub mod Fetched
-- theorems 12 and 13
pub mod Theorems
-- demand 3 of the six series
pub mod Applied
-- one house's sheet, fetched while pipes land there and elsewhere; after a grow; and ended by a removal
pub mod Interleaved
