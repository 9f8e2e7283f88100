-- walks to a leaf, and what they were before the last edge
pub mod Before
-- what the round of a vertex was before the last edge
pub mod Rounds
-- the room around a vertex, by which it can have been relabelled so often; an edge that does not relabel it leaves it that room
pub mod Room
-- a merge doubles the room of each vertex that it relabels
pub mod Merged
-- a tap finds room enough for the vertices that it relabels
pub mod Tapped
-- every landing leaves each vertex the room that it needs
pub mod Landed
