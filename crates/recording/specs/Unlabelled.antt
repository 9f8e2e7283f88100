-- One edge into the tables without labels, as functions of lists that mirror the code.
use Rattle.std.specs.Prelude.{ℕ, ◌+◌, ◌*◌, Bool, List, get_or, set, eqb, if◌then◌else◌}
use Rattle.model.specs.Graph.{Edge}
use Rattle.model.specs.Tables.{Tables, Counts}
use Rattle.counters.specs.Answers.{counts}
use Rattle.tables.specs.Meaning.{tables}
use Rattle.tables.specs.Steps.{set_pair, more16, raise_both_in}
use Rattle.checking.specs.Checks.{CheckIn, passed, failed, check_in}
use Rattle.insertion.specs.Insertion.{LandingIn, landing_in, done, refused_in}

-- the side on which the next edge stands at a vertex of this degree: 0 is low, 1 is high
unfoldable pub place_for : ℕ → ℕ
place_for degree = if eqb degree 0 then 0 else 1

-- edge e comes to vertex v
unfoldable pub note_in : List ℕ → List ℕ → ℕ → ℕ → List ℕ
note_in degrees sides v e = set sides (2 * v + place_for (get_or degrees v 0)) e

unfoldable pub note_both_in : List ℕ → List ℕ → ℕ → ℕ → ℕ → List ℕ
note_both_in degrees sides v w e = note_in degrees (note_in degrees sides v e) w e

-- an edge that passed its refusals; births and the total of relabellings stay
unfoldable pub note_edge_in : Tables → Counts → Bool → Edge → LandingIn
note_edge_in t c rings e =
    let new = c.edges in
    landing_in
    (tables (raise_both_in t.degrees e.first e.second) (note_both_in t.degrees t.sides e.first e.second new)
    (set_pair t.ends new e.first e.second) (set t.lengths new e.len) (set t.volumes new e.volume) t.labels)
    (done (counts c.vertices (more16 new) c.blocks c.relabellings) rings)

-- what recording comes to, once the edge was checked; a refused edge leaves the tables
abbrev pub unlabelled_checked : Tables → Counts → Bool → CheckIn → LandingIn
unlabelled_checked t c rings (passed a b n v) = note_edge_in t c rings (record { first = a; second = b; len = n; volume = v })
unlabelled_checked t c rings (failed x) = landing_in t (refused_in x)

-- every refusal in its order, and then the edge
unfoldable pub unlabelled_in : Tables → Counts → ℕ → Bool → Edge → LandingIn
unlabelled_in t c limit rings e = unlabelled_checked t c rings (check_in c limit e)
