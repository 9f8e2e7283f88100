-- A chain is split, or a ring tapped, as functions of lists that mirror the code.
use Rattle.std.specs.Prelude.{ℕ, Bool, true, false, List, set, if◌then◌else◌}
use Rattle.model.specs.Labels.{base}
use Rattle.tables.specs.Steps.{far_in, set_pair, more16, sum32}
use Rattle.tables.specs.Rounds.{lower_in, ring_in}
use Rattle.tables.specs.declared.rings.Round.{Round}
use Rattle.tables.specs.declared.rings.Round.TheVariants.{NoRing, Ring, Shared}
use Rattle.labels.specs.Labelling.{MarksIn, marks_in, relabel_in}
use Rattle.labels.specs.Changes.{Changed, changed}
use Rattle.parting.specs.declared.splitting.Splits.{Splits}
use Rattle.parting.specs.declared.splitting.Splits.TheVariants.{Neither, One, Both}
use Rattle.parting.specs.declared.splitting.Rounds.{Rounds}

-- vertex v without label and sides
unfoldable pub bare_in : List ℕ → List ℕ → ℕ → MarksIn
bare_in sides labels v = marks_in (set_pair sides v 0 0) (set labels v 0) 0

-- the ring of v, with so many others, becomes a loop at v, in block k; the count is that of the relabelled
unfoldable pub tap_in : List ℕ → List ℕ → List ℕ → List ℕ → ℕ → ℕ → ℕ → MarksIn
tap_in degrees sides ends labels v k others =
    let d = lower_in sides v in
    let w = relabel_in degrees ends true others sides labels d (far_in ends d v) (base k) in
    let g = bare_in w.sides w.labels v in
    marks_in g.sides g.labels w.count

-- vertex v split, with what lies round about it; w is the other end of the edge
abbrev pub split_by : Round → List ℕ → List ℕ → List ℕ → List ℕ → ℕ → ℕ → ℕ → Changed
split_by NoRing degrees sides ends labels blocks v w =
    let g = bare_in sides labels v in
    changed g.sides g.labels blocks 0 false
split_by (Ring others) degrees sides ends labels blocks v w =
    let g = tap_in degrees sides ends labels v (more16 blocks) others in
    changed g.sides g.labels (more16 blocks) g.count false
split_by (Shared others) degrees sides ends labels blocks v w =
    let g = tap_in degrees sides ends (set labels w 0) v (more16 blocks) others in
    changed g.sides g.labels (more16 blocks) g.count false

unfoldable pub split_in : List ℕ → List ℕ → List ℕ → List ℕ → ℕ → ℕ → ℕ → ℕ → Changed
split_in degrees sides ends labels blocks v w n =
    split_by (ring_in degrees sides ends v w n) degrees sides ends labels blocks v w

-- what the first split leaves round about the second vertex
unfoldable pub left_for : Round → Round
left_for NoRing = NoRing
left_for (Ring others) = Ring others
left_for (Shared others) = NoRing

-- a and b split, a first
unfoldable pub split_both_in : List ℕ → List ℕ → List ℕ → List ℕ → ℕ → ℕ → ℕ → ℕ → Changed
split_both_in degrees sides ends labels blocks a b n =
    let c = split_by (ring_in degrees sides ends a b n) degrees sides ends labels blocks a b in
    let d = split_by (left_for (ring_in degrees sides ends b a n)) degrees c.sides ends c.labels c.blocks b a in
    changed d.sides d.labels d.blocks (sum32 c.relabellings d.relabellings) false

-- v split, and then a and b, a first; a ring is looked for where one may stand
abbrev pub split_one_in : List ℕ → List ℕ → List ℕ → List ℕ → ℕ → ℕ → ℕ → ℕ → Bool → Changed
split_one_in degrees sides ends labels blocks v w n rings =
    let c = split_by NoRing degrees sides ends labels blocks v w in
    if rings then split_in degrees sides ends labels blocks v w n else c

abbrev pub split_two_in : List ℕ → List ℕ → List ℕ → List ℕ → ℕ → ℕ → ℕ → ℕ → Bool → Changed
split_two_in degrees sides ends labels blocks a b n rings =
    let c = split_by NoRing degrees sides ends labels blocks a b in
    let d = split_by NoRing degrees c.sides ends c.labels blocks b a in
    if rings then split_both_in degrees sides ends labels blocks a b n else d

-- the regular ends of the edge between a and b split
abbrev pub split_ends_in : Splits → List ℕ → List ℕ → List ℕ → List ℕ → ℕ → ℕ → ℕ → ℕ → Bool → Changed
split_ends_in Neither degrees sides ends labels blocks a b n rings = changed sides labels blocks 0 false
split_ends_in (One v w) degrees sides ends labels blocks a b n rings =
    split_one_in degrees sides ends labels blocks v.0 w.0 n rings
split_ends_in Both degrees sides ends labels blocks a b n rings = split_two_in degrees sides ends labels blocks a b n rings

-- ---- looked for first, and then done

abbrev pub rounds : Round → Round → Rounds
rounds first second = record { first = first; second = second }

abbrev pub no_rounds : Rounds
no_rounds = rounds NoRing NoRing

-- what lies round about v, or about a and b; a ring is looked for where one may stand
unfoldable pub rounds_one : List ℕ → List ℕ → List ℕ → ℕ → ℕ → ℕ → Bool → Rounds
rounds_one degrees sides ends v w n rings = if rings then rounds (ring_in degrees sides ends v w n) NoRing else no_rounds

unfoldable pub rounds_both : List ℕ → List ℕ → List ℕ → ℕ → ℕ → ℕ → Bool → Rounds
rounds_both degrees sides ends a b n rings =
    if rings then rounds (ring_in degrees sides ends a b n) (left_for (ring_in degrees sides ends b a n)) else no_rounds

-- .. about the regular ends of the edge between a and b
abbrev pub rounds_for : Splits → List ℕ → List ℕ → List ℕ → ℕ → ℕ → ℕ → Bool → Rounds
rounds_for Neither degrees sides ends a b n rings = no_rounds
rounds_for (One v w) degrees sides ends a b n rings = rounds_one degrees sides ends v.0 w.0 n rings
rounds_for Both degrees sides ends a b n rings = rounds_both degrees sides ends a b n rings

-- a and b split, a first, with what lies round about them
unfoldable pub both_by : Rounds → List ℕ → List ℕ → List ℕ → List ℕ → ℕ → ℕ → ℕ → Changed
both_by by degrees sides ends labels blocks a b =
    let c = split_by by.first degrees sides ends labels blocks a b in
    let d = split_by by.second degrees c.sides ends c.labels c.blocks b a in
    changed d.sides d.labels d.blocks (sum32 c.relabellings d.relabellings) false

-- the regular ends of the edge between a and b split; by `ends_found` in Splits this is `split_ends_in` with what `rounds_for` found
abbrev pub ends_by : Splits → Rounds → List ℕ → List ℕ → List ℕ → List ℕ → ℕ → ℕ → ℕ → Changed
ends_by Neither by degrees sides ends labels blocks a b = changed sides labels blocks 0 false
ends_by (One v w) by degrees sides ends labels blocks a b = split_by by.first degrees sides ends labels blocks v.0 w.0
ends_by Both by degrees sides ends labels blocks a b = both_by by degrees sides ends labels blocks a b
