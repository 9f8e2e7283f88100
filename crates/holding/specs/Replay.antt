-- The tables' own edges landed again on other tables, as functions that mirror the code.
use Rattle.std.specs.Prelude.{◌≡◌, ℕ, zero, suc, ◌+◌, Bool, true, false, List, leb, if◌then◌else◌}
use Rattle.std.proofs.Math.Option.{Option, none, some}
use Rattle.model.specs.Basics.{max_edges, max_vertices}
use Rattle.model.specs.Tables.{Tables, Counts, Stored}
use Rattle.counters.specs.Answers.{counts}
use Rattle.tables.specs.Meaning.{stored}
use Rattle.tables.specs.Steps.{edge_of}
use Rattle.insertion.specs.Insertion.{AnswerIn, done, refused_in, LandingIn, landing_in, land_in}

-- n edges of the tables of ends, lengths and volumes, from number e on, landed on t without a licence; rings: a ring may stand
unfoldable pub replay_in : List ℕ → List ℕ → List ℕ → ℕ → ℕ → Tables → Counts → Bool → LandingIn
replay_in ends lengths volumes zero e t c rings = landing_in t (done c rings)
replay_in ends lengths volumes (suc n) e t c rings =
    let l = land_in t c max_edges rings (edge_of ends lengths volumes e) in
    elim l.answer [
      | done c' rings' ↦ replay_in ends lengths volumes n (e + 1) l.tables c' rings'
      | refused_in x ↦ l
    ]

-- all edges that the counts say, on tables t on which no ring stands, after as many vertices
unfoldable pub regrow_in : List ℕ → List ℕ → List ℕ → Counts → Tables → LandingIn
regrow_in ends lengths volumes c t =
    if leb c.vertices max_vertices then replay_in ends lengths volumes c.edges 0 t (counts c.vertices 0 0 0) false
    else landing_in t (refused_in 22)

-- the tables and counts that a landing leaves, if it is not refused
abbrev pub left_as : Tables → AnswerIn → Option Stored
left_as t (done c rings) = some (stored t c)
left_as t (refused_in x) = none

abbrev pub left_by : LandingIn → Option Stored
left_by l = left_as l.tables l.answer

-- r tells whether the edges of `own`, landed on t, leave `own` itself with its counts
pub record Regrows (r : Bool) (own : Tables) (c : Counts) (t : Tables) : Type 0 where
  pub if_true : r ≡ true → left_by (regrow_in own.ends own.lengths own.volumes c t) ≡ some (stored own c)
  pub true_if : left_by (regrow_in own.ends own.lengths own.volumes c t) ≡ some (stored own c) → r ≡ true
