-- Laws: `Lists` of comparing; `SameLengths` of six tables; `Sums` of sums that stop; `Lockstep` of the walk.
pub mod Lists
pub mod SameLengths
pub mod Sums
pub mod Lockstep
pub mod Rounds
