-- The ways out of a replay, and a turn of its loop.
use mathlib.Core.Path.{◌≡◌, refl, sym, ap, ◌∙◌, subst}
use Prim.Native.Nat.{ℕ, zero, suc, ◌+◌, ◌*◌, ◌-◌, ◌≤◌, ◌<◌}
use native.Mathlib.Nat.{not-suc-le-zero}
use mathlib.Core.List.{List}
use native.Mathlib.Omega.{arith}
use mathlib.Core.Bool.{Bool, false}
use mathlib.Core.Option.{none, some}
use lib.ListN.{get_or}
use borrow.Author.Tests.{le-leb, lt-leb}
use Rattle.model.specs.Basics.{max_edges, max_vertices}
use Rattle.model.specs.Tables.{Tables, Counts, Stored, stored_edge}
use Rattle.lent.specs.declared.slices.Tables.{Tables as LentTables}
use Rattle.lent.specs.Lent.{of_lent, SameLent}
use Rattle.tables.specs.Meaning.{tables}
use Rattle.tables.specs.Steps.{edge_of, zeroed}
use Rattle.counters.specs.Answers.{counts}
use Rattle.insertion.specs.Insertion.{AnswerIn, done, refused_in, LandingIn, landing_in, land_in}
use Rattle.holding.specs.Replay.{replay_in, regrow_in, Regrows}

module _ (es ls us : List ℕ) where
  -- more vertices than there can be are refused; else all edges are landed, one after the other
  pub replay_full : (c : Counts) (t : Tables) → max_vertices < c.vertices → landing_in t (refused_in 22) ≡ regrow_in es ls us c t
  unfolding regrow_in
  replay_full c t h = rw (lt-leb c.vertices max_vertices h)

  pub replay_all : (c : Counts) (t : Tables) (l : LandingIn) → c.vertices ≤ max_vertices
      → l ≡ replay_in es ls us c.edges 0 t (counts c.vertices 0 0 0) false → l ≡ regrow_in es ls us c t
  unfolding regrow_in
  replay_all c t l h e = rw (le-leb c.vertices max_vertices h) e

  -- no edge is left: the tables and the counts stay
  pub replay_end : (n e : ℕ) (t : Tables) (c : Counts) (rings : Bool) → n ≤ 0 → landing_in t (done c rings) ≡ replay_in es ls us n e t c rings
  unfolding replay_in
  replay_end zero e t c rings h = refl
  replay_end (suc n) e t c rings h = absurd (not-suc-le-zero h)

tables_of_lem : {x y : LandingIn} → x ≡ y → x.tables ≡ y.tables
tables_of_lem e = ap (λ (l : LandingIn). l.tables) e

answer_of : {x y : LandingIn} → x ≡ y → x.answer ≡ y.answer
answer_of e = ap (λ (l : LandingIn). l.answer) e

-- the edge that the code reads
own_edge : (es ls us : List ℕ) (e a b l u : ℕ) → a ≡ get_or es (2 * e) 0 → b ≡ get_or es (2 * e + 1) 0 → l ≡ get_or ls e 0 → u ≡ get_or us e 0
    → record { first = a; second = b; len = l; volume = u } ≡ edge_of es ls us e
unfolding stored_edge
own_edge es ls us e a b l u p q r s = rw (p, q, r, s)

module _ (es ls us : List ℕ) (e : ℕ) (t t' : Tables) (c : Counts) (rings : Bool) where
  replay_step_on : (n : ℕ) (c' : Counts) (rings' : Bool) → landing_in t' (done c' rings') ≡ land_in t c max_edges rings (edge_of es ls us e)
      → replay_in es ls us (suc n) e t c rings ≡ replay_in es ls us n (e + 1) t' c' rings'
  unfolding replay_in
  replay_step_on n c' rings' q = rw (← answer_of q, replay_in, ← tables_of_lem q)

  replay_step_refused : (n x : ℕ) → landing_in t' (refused_in x) ≡ land_in t c max_edges rings (edge_of es ls us e)
      → landing_in t' (refused_in x) ≡ replay_in es ls us (suc n) e t c rings
  unfolding replay_in
  replay_step_refused n x q = rw (← answer_of q, replay_in) q

-- edge e of those before number m
module _ (es ls us : List ℕ) (m e a b l u : ℕ) (t t' : Tables) (c : Counts) (rings : Bool) (more : e < m)
    (first : a ≡ get_or es (2 * e) 0) (second : b ≡ get_or es (2 * e + 1) 0) (long : l ≡ get_or ls e 0) (holds : u ≡ get_or us e 0) (answer : AnswerIn)
    (lands : landing_in t' answer ≡ land_in t c max_edges rings (record { first = a; second = b; len = l; volume = u })) where
  next : m - e ≡ suc (m - (e + 1))
  next = omega (arith, more)

  landed_own : (answer' : AnswerIn) → answer ≡ answer' → landing_in t' answer' ≡ land_in t c max_edges rings (edge_of es ls us e)
  landed_own answer' w = ap (landing_in t') (sym w) ∙ lands ∙ ap (land_in t c max_edges rings) (own_edge es ls us e a b l u first second long holds)

  -- the edge lands, and the next follows; or it is refused
  pub replay_on : (c' : Counts) (rings' : Bool) → answer ≡ done c' rings'
      → replay_in es ls us (m - e) e t c rings ≡ replay_in es ls us (m - (e + 1)) (e + 1) t' c' rings'
  replay_on c' rings' w = rw next (replay_step_on es ls us e t t' c rings (m - (e + 1)) c' rings' (landed_own (done c' rings') w))

  pub replay_refused : (x : ℕ) → answer ≡ refused_in x → landing_in t' (refused_in x) ≡ replay_in es ls us (m - e) e t c rings
  replay_refused x w = rw next (replay_step_refused es ls us e t t' c rings (m - (e + 1)) x (landed_own (refused_in x) w))

-- ---- the comparison

-- an equality of what is stored, without the answer around it
pub stored_is : (s s' : Stored) → some s ≡ some s' → s ≡ s'
stored_is s s' e = cc

-- nothing left is not something stored
pub none_some : (s : Stored) → none ≡ some s → ⊥
none_some s e = let z : ◌≡◌ {A = ℕ} 0 1 = cc in omega arith

-- cleared tables of the same sizes are the same
pub zeroed_again : {s t : LentTables} → SameLent s t → zeroed (of_lent s) ≡ zeroed (of_lent t)
unfolding zeroed
zeroed_again k = rw (k.degrees_long, k.sides_long, k.ends_long, k.lengths_long, k.volumes_long, k.labels_long)

-- the same answer, and the same tables to land on
pub regrows_on : (r : Bool) (own : Tables) (c : Counts) (t t' : Tables) → t ≡ t' → Regrows r own c t → Regrows r own c t'
regrows_on r own c t t' e h = subst (λ (u : Tables). Regrows r own c u) e h
