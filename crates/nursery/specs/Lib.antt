-- Documents 01 and 02 on calls and series of calls for eight houses, each after what it needs; what they do to one register stands in `model`.
pub mod Licence
pub mod Removal
pub mod Nursery
pub mod Calls
pub mod Series
pub mod Notions
pub mod Values
