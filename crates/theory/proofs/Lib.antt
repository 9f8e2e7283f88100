-- In the order of reading, each on those before it and on `model`: what one edge more does to labels, what that costs, and how often it is the
-- same vertex; distances; every register that landing leaves; lists, and what demand 3 compares; the verdict on a sheet; the theorems.
pub mod Labels
pub mod Groups
pub mod Repeats
pub mod Distances
pub mod Registers
pub mod Series
pub mod Judging
pub mod Theorems
