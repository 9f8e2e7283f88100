-- The walk from a vertex along its edge until it is home: once round a ring, or, on a chain, the whole walk to its end.
use mathlib.Core.Path.{◌≡◌, refl, sym, ap, ◌∙◌, subst}
use mathlib.Core.Logic.{◌≢◌}
use Prim.Native.Nat.{ℕ, ◌<◌}
use mathlib.Core.Bool.{true, false}
use mathlib.Core.List.{List, [], ◌++◌, append-nil}
use lib.ListN.{length, get_or}
use borrow.Author.Tests.{eq-eqb, ne_eqb}
use Rattle.model.specs.Graph.{Edge, Pass, edge_at, end_of, end_onwards, far, is_regular, edge_on_ring, onwards, once_round, until}
use Rattle.model.specs.Register.{Register}
use Rattle.model.specs.Tables.{tables_of}
use Rattle.model.specs.Notions.{Reachable}
use Rattle.model.proofs.Basics.Booleans.{not_both}
use Rattle.model.proofs.Walks.Degree.{Proper}
use Rattle.model.proofs.Walks.Turn.{At}
use Rattle.model.proofs.Walks.Joins.{Across, across, proper_at}
use Rattle.model.proofs.Walks.Ended.{singular_off}
use Rattle.model.proofs.Walks.Places.{Off}
use Rattle.model.proofs.Walks.Trail.{trail_at, trail_end_of}
use Rattle.model.proofs.Walks.Returns.{first_regular, off_ring}
use Rattle.model.proofs.Walks.Round.{Meets, misses, meets, meets_or, Round, arrives_ring, ring_round, until_append}
use Rattle.model.proofs.Walks.Whole.{Onwards, onwards_ends}
use Rattle.agreement.proofs.Chaining.{steps, stops}

pub until_off : (v : ℕ) (ss : List Pass) → Off ss v → until v ss ≡ ss
unfolding until
until_off v ss o =
    let e : until v (ss ++ []) ≡ ss ++ until v [] = until_append v ss [] o in
    ap (until v) (sym (append-nil ss)) ∙ e ∙ append-nil ss

module _ (es : List Edge) (pr : Proper es) (d v : ℕ) (a : At es v d) where
  x : Across es d v
  x = across es d v pr a

  -- on a chain nobody who sets out from v comes to v
  ends : edge_on_ring es d ≡ false → Onwards es d (far es d v)
  ends f = onwards_ends es pr d (far es d v) x.at (off_ring es pr d a.inside f (far es d v) x.at)

  -- on a chain the walk until it is home is the whole walk, and ends where that ends, at a singular vertex
  pub round_open : edge_on_ring es d ≡ false → once_round es d v ≡ onwards es d (far es d v)
  unfolding once_round
  round_open f = until_off v (onwards es d (far es d v)) (go (meets_or v (ends f).trail))
    where
      go : Meets es d (far es d v) (onwards es d (far es d v)) (ends f).onto (ends f).to v → Off (onwards es d (far es d v)) v
      go (misses o) = o
      go (meets front rest onto parts u w o l) = absurd (not_both (edge_on_ring es d) (arrives_ring es pr a (first_regular w l) u) f)

  pub open_end : edge_on_ring es d ≡ false → end_of es (far es d v) (once_round es d v) ≡ end_onwards es d (far es d v)
  unfolding end_onwards
  open_end f = rw (round_open f)

  pub open_singular : edge_on_ring es d ≡ false → is_regular es (end_onwards es d (far es d v)) ≡ false
  open_singular f = let o = ends f in rw o.ends_at_lem o.singular

  -- .. which is the end of an edge
  pub open_onto : edge_on_ring es d ≡ false → ℕ
  open_onto f = (ends f).onto

  -- that end lies at the edge on which the walk comes there
  pub open_at : (f : edge_on_ring es d ≡ false) → At es (end_onwards es d (far es d v)) (open_onto f)
  unfolding open_onto ends
  open_at f = let o = ends f in subst (λ (w : ℕ). At es w o.onto) (sym o.ends_at_lem) (trail_at pr x.at o.trail)

  -- the way that goes on to a singular vertex does not stop at one before
  pub past_singular : edge_on_ring es d ≡ false → (home : ℕ) → is_regular es home ≡ false → until home (onwards es d (far es d v)) ≡ onwards es d (far es d v)
  past_singular f home q = until_off home (onwards es d (far es d v)) (singular_off (ends f).trail home q)

  -- round a ring one comes to v again
  pub round_end : edge_on_ring es d ≡ true → (end_of es (far es d v) (once_round es d v) ≡ v) × (is_regular es v ≡ true)
  round_end t = let k : Round es d v = ring_round es pr d v t a in (trail_end_of k.trail, k.regular)

-- the far end from the first end is the second, and back
pub far_first : (es : List Edge) (d : ℕ) → far es d (edge_at es d).first ≡ (edge_at es d).second
unfolding far
far_first es d = rw (eq-eqb (edge_at es d).first (edge_at es d).first refl)

pub far_second : (es : List Edge) → Proper es → (d : ℕ) → d < length es → far es d (edge_at es d).second ≡ (edge_at es d).first
unfolding far
far_second es pr d h = rw (ne_eqb (edge_at es d).first (edge_at es d).second (proper_at es d pr h))

-- a regular vertex has degree 2 in the table, a singular one has not
module _ (r : Register) (g : Reachable r) (d v : ℕ) (a : At r.edges v d) where
  -- the table of degrees has 2 at a regular vertex, and something else at a singular one
  pub two_read : is_regular r.edges v ≡ true → get_or (tables_of r).degrees v 0 ≡ 2
  two_read q = (steps r g d v a q).regular

  pub other_read : is_regular r.edges v ≡ false → get_or (tables_of r).degrees v 0 ≢ 2
  other_read q = stops r g d v a q
