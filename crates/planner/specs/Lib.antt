-- the limits, and what the checked constructors answer
pub mod Numbers
-- a compartment's windows, and 35
pub mod Windows
-- the first minute, and the answer
pub mod Planning
-- numbers of the refusals, answers
pub mod Answers
-- the call from C
pub mod FromC
-- the volume of a sheet's line
pub mod Lines
-- the windows of one week as the code takes them: no promise to outsiders cites it
pub mod Weeks
-- what is claimed of the answer
pub mod Claims
-- values that tell readings apart
pub mod Values
