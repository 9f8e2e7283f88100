-- Document 02, S-10: an edge within a limit on the register's edges. Below the limit it changes nothing; once it is reached, 36 holds of just
-- those edges of which no other refusal does.
use Rattle.std.specs.Prelude.{if◌then◌else◌}
use mathlib.Core.Path.{◌≡◌, refl, sym, ap, ◌∙◌}
use mathlib.Core.Logic.{◌≢◌}
use Prim.Native.Nat.{ℕ, ◌≤◌, ◌<◌}
use native.Mathlib.Omega.{arith}
use mathlib.Core.Bool.{Bool, true, false}
use mathlib.Core.Option.{Option, none, some, some-injective, none-ne-some}
use lib.ListN.{length}
use lib.Dec.{leb}
use borrow.Author.Tests.{le-leb, le-ltb, leb-true, lt-leb, lt-ltb, ne_eqb}
use Rattle.model.specs.Basics.{max_edges, max_length, max_volume}
use Rattle.model.specs.Graph.{Edge}
use Rattle.model.specs.Register.{Register, edge_refusal, land_edge, land_edge_within}
use Rattle.model.specs.Notions.{Admissible}
use Rattle.model.proofs.Registers.Accepted.{past_23}
use Rattle.model.proofs.Registers.Quotes.{land_edge_by, unless_refused}

-- ---- below the limit

once : (b : Bool) → ◌≡◌ {A = Option ℕ} (if b then some 23 else if b then some 36 else none) (if b then some 23 else none)
once true = refl
once false = refl

-- an edge has the refusal that it has without the limit
pub refusal_below : (limit : ℕ) (r : Register) (e : Edge) → length r.edges < limit → edge_refusal limit r e ≡ edge_refusal max_edges r e
unfolding edge_refusal
refusal_below limit r e l = rw (lt-leb limit (length r.edges) l, once (leb max_edges (length r.edges)))

-- so it lands as it does without one
pub below_limit : (limit : ℕ) (r : Register) (e : Edge) → length r.edges < limit → land_edge_within limit r e ≡ land_edge r e
unfolding land_edge
below_limit limit r e l = land_edge_by limit r e ∙ ap (unless_refused r e) (refusal_below limit r e l) ∙ sym (land_edge_by max_edges r e)

-- ---- at the limit

-- 36 holds of an edge that could land
pub at_limit : (limit : ℕ) (r : Register) (e : Edge) → Admissible r e → limit ≤ length r.edges → edge_refusal limit r e ≡ some 36
unfolding edge_refusal
at_limit limit r e a l =
    let w = a.lawful in
    rw (
      lt-ltb e.first r.vertices w.first_landed,
      lt-ltb e.second r.vertices w.second_landed,
      ne_eqb e.first e.second w.differ,
      ne_eqb e.len 0 (λ z. omega (arith, w.some_length)),
      le-ltb max_length e.len w.most_length,
      le-ltb max_volume e.volume w.most_volume,
      lt-leb max_edges (length r.edges) a.room,
      le-leb limit (length r.edges) l,
    )

other : (m n : ℕ) → m ≢ n → some m ≢ some n
other m n d e = d (some-injective m n e)

-- and of no other, nor before the limit is reached
pub only_at_limit : (limit : ℕ) (r : Register) (e : Edge) → edge_refusal limit r e ≡ some 36 → Admissible r e × (limit ≤ length r.edges)
only_at_limit limit r e h =
    let p = past_23 limit r e (some 36) (other 5 36 (λ z. omega arith)) (other 6 36 (λ z. omega arith)) (other 7 36 (λ z. omega arith))
    (other 31 36 (λ z. omega arith)) (other 23 36 (λ z. omega arith)) h in
    (p.0, reached (leb limit (length r.edges)) refl p.1)
  where
    reached : (b : Bool) → leb limit (length r.edges) ≡ b → ◌≡◌ {A = Option ℕ} (if b then some 36 else none) (some 36) → limit ≤ length r.edges
    reached true q k = leb-true limit (length r.edges) q
    reached false q k = absurd (none-ne-some 36 k)

-- so 36 never holds where there is no licence
pub no_licence : (r : Register) (e : Edge) → edge_refusal max_edges r e ≢ some 36
no_licence r e h = let p = only_at_limit max_edges r e h in omega (arith, p.0.room, p.1)
