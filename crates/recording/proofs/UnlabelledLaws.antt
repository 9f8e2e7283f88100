-- The ways out of recording one edge.
use mathlib.Core.Path.{◌≡◌}
use Prim.Native.Nat.{ℕ}
use mathlib.Core.Bool.{Bool}
use mathlib.Core.List.{List, []}
use lib.ListN.{set}
use Rattle.model.specs.Graph.{Edge}
use Rattle.model.specs.Tables.{Tables, Counts}
use Rattle.counters.specs.Answers.{counts}
use Rattle.tables.specs.Meaning.{tables}
use Rattle.tables.specs.Steps.{set_pair, more16, raise_both_in}
use Rattle.checking.specs.Checks.{passed, failed, check_in}
use Rattle.insertion.specs.Insertion.{AnswerIn, landing_in, done, refused_in}
use Rattle.recording.specs.Unlabelled.{note_both_in, note_edge_in, unlabelled_in}

-- the edge written down, its ends raised and noted
pub note_done : (d s e l v d' s' e' l' v' : List ℕ) (n m m' k o a b len vol : ℕ) (rings : Bool)
    → d' ≡ raise_both_in d a b → s' ≡ note_both_in d s a b m → e' ≡ set_pair e m a b → l' ≡ set l m len → v' ≡ set v m vol → m' ≡ more16 m
    → landing_in (tables d' s' e' l' v' []) (done (counts n m' k o) rings)
    ≡ note_edge_in (tables d s e l v []) (counts n m k o) rings (record { first = a; second = b; len = len; volume = vol })
unfolding note_edge_in
note_done d s e l v d' s' e' l' v' n m m' k o a b len vol rings p q r t u w =
    λ i. landing_in (tables (p i) (q i) (r i) (t i) (u i) []) (done (counts n (w i) k o) rings)

module _ (t : Tables) (c : Counts) (limit : ℕ) (rings : Bool) (e : Edge) where
  -- an edge that passes is written down; one that fails leaves the tables
  pub record_passed : (t' : Tables) (x : AnswerIn) (a b n v : ℕ) → passed a b n v ≡ check_in c limit e
      → landing_in t' x ≡ note_edge_in t c rings (record { first = a; second = b; len = n; volume = v }) → landing_in t' x ≡ unlabelled_in t c limit rings e
  unfolding unlabelled_in
  record_passed t' x a b n v p q = rw (← p) q

  pub record_failed : (x : ℕ) → failed x ≡ check_in c limit e → landing_in t (refused_in x) ≡ unlabelled_in t c limit rings e
  unfolding unlabelled_in
  record_failed x p = rw (← p)
