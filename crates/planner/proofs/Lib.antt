-- the windows of a slice, how many there are, and when they are in order
pub mod WindowLaws
-- how many numbers are too many windows, and a minute that is none of the week
pub mod BoundLaws
-- a quotient rounded up
pub mod Transit
-- the first number that passes a test
pub mod Search
-- the windows of one week give its first minute
pub mod WeekLaws
-- this week and then the next give the first minute of all
pub mod Earliest
-- the ways out of the call
pub mod PlanLaws
-- what the call from C returns
pub mod InCLaws
-- a number of a line, read from the lines in front of a slice
pub mod LineLaws
-- the tie to the register: a line of its sheet has the volume of a run or ring
pub mod SheetLines
-- the theorem on the answer
pub mod Theorems
-- the values
pub mod Values
