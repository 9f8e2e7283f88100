-- Whether a ring may stand. Where none does no split looks for one, and leaves what it would leave if it did.
use mathlib.Core.Path.{◌≡◌, refl, ◌∙◌, subst}
use mathlib.Core.Logic.{◌⊎◌, inl, inr}
use Prim.Native.Nat.{ℕ, ◌<◌}
use native.Mathlib.Omega.{arith}
use native.Mathlib.Decide.{ℕ_discrete}
use mathlib.Core.Bool.{Bool, true, false, ◌||◌}
use mathlib.Core.List.{List, [], ◌∷◌, ◌++◌}
use lib.ListN.{length}
use lib.Dec.{ltb}
use borrow.Author.Tests.{ltb-false}
use Rattle.model.specs.Graph.{Edge, degree, edge_on_ring, lower_numbered}
use Rattle.model.specs.Cases.{closes_ring}
use Rattle.model.specs.Labels.{vertex_on_ring}
use Rattle.model.specs.Register.{Register, land_edge, land_vertex, landed, with_edge, with_vertex}
use Rattle.model.specs.Notions.{Admissible, Reachable}
use Rattle.tables.specs.Steps.{sum32}
use Rattle.parting.specs.Splitting.{left_for, split_both_in, split_ends_in, split_in}
use Rattle.counters.specs.Numbers.{vertex_of}
use Rattle.parting.specs.declared.splitting.Splits.TheVariants.{Both, One}
use Rattle.model.proofs.Basics.Booleans.{not_both, or_false, true_or_false}
use Rattle.model.proofs.Walks.Degree.{Proper}
use Rattle.model.proofs.Walks.NewEdge.{length_new}
use Rattle.model.proofs.Registers.Accepted.{accepted, added}
use Rattle.theory.proofs.Theorems.{theorem_1}
use Rattle.agreement.proofs.Lockstep.{Shows}
use Rattle.agreement.proofs.Ringing.{lower_at, ring_no}

-- no edge lies on a ring
abbrev pub RingFree : List Edge → Type 0
RingFree es = (d : ℕ) → d < length es → edge_on_ring es d ≡ false

-- `rings` tells of every ring that stands: it is false only where none does
abbrev pub Warns : Bool → List Edge → Type 0
Warns rings es = rings ≡ false → RingFree es

-- where a ring may stand, nothing is left to tell
pub warns_any : (es : List Edge) → Warns true es
warns_any es f = absurd (not_both true refl f)

-- no ring stands without edges
pub warns_first : (es : List Edge) → Warns (ltb 0 (length es)) es
warns_first es f d l = absurd (omega (arith, ltb-false 0 (length es) f))

-- a vertex more leaves true what `rings` tells
pub warns_vertex : (r r' : Register) (rings : Bool) → land_vertex r ≡ landed r' → Warns rings r.edges → Warns rings r'.edges
unfolding with_vertex
warns_vertex r r' rings h k = subst (λ (s : Register). Warns rings s.edges) (added r r' h).1 k

-- a ring comes by a closing alone
closes_none : (r : Register) (e : Edge) (r' : Register) → Reachable r → land_edge r e ≡ landed r' → RingFree r.edges
    → closes_ring r.edges e.first e.second ≡ false → RingFree r'.edges
unfolding with_edge
closes_none r e r' g h k c = subst (λ (s : Register). RingFree s.edges) a.1 (λ d l. go d l (ℕ_discrete d (length r.edges)))
  where
    a : Admissible r e × (with_edge r e ≡ r')
    a = accepted r e r' h

    go : (d : ℕ) → d < length (r.edges ++ (e ∷ [])) → Dec (d ≡ length r.edges) → edge_on_ring (r.edges ++ (e ∷ [])) d ≡ false
    go d l (yes q) = rw q ((theorem_1 r g).ring_closed e a.0 ∙ c)
    go d l (no q) =
        let i : d < length r.edges = omega (arith, length_new r.edges e) in
        (theorem_1 r g).still_ends e d a.0 c i (k d i)

-- `rings` after an edge: true where it was, or where a ring was closed
pub warns_edge : (r : Register) (e : Edge) (r' : Register) (rings : Bool) → Reachable r → land_edge r e ≡ landed r' → Warns rings r.edges
    → Warns (rings || closes_ring r.edges e.first e.second) r'.edges
warns_edge r e r' rings g h k f =
    let q = or_false rings (closes_ring r.edges e.first e.second) f in
    closes_none r e r' g h (k q.0) q.1

-- ---- splits

module _ {es : List Edge} (pr : Proper es) {degrees sides ends lows : List ℕ} (sh : Shows es degrees sides ends lows) (rings : Bool) (k : Warns rings es)
    (labels : List ℕ) (blocks a b : ℕ) where
  off : (v : ℕ) → degree es v ≡ 2 → rings ≡ false → vertex_on_ring es v ≡ false
  unfolding vertex_on_ring
  off v two f = k f (lower_numbered es v) (lower_at es pr v two).inside

  -- a split that looks for a ring only where one may stand is a split
  pub one_as : (v w : ℕ) → degree es v ≡ 2
      → split_ends_in (One (vertex_of v) (vertex_of w)) degrees sides ends labels blocks a b (length es) rings ≡ split_in degrees sides ends labels blocks v w (length es)
  unfolding split_in
  one_as v w two = go (true_or_false rings)
    where
      go : (rings ≡ true) ⊎ (rings ≡ false)
          → split_ends_in (One (vertex_of v) (vertex_of w)) degrees sides ends labels blocks a b (length es) rings ≡ split_in degrees sides ends labels blocks v w (length es)
      go (inl t) = rw t
      go (inr f) = rw (f, ring_no pr sh v w two (off v two f))

  -- the same of the splits of both ends
  pub both_as : degree es a ≡ 2 → degree es b ≡ 2
      → split_ends_in Both degrees sides ends labels blocks a b (length es) rings ≡ split_both_in degrees sides ends labels blocks a b (length es)
  unfolding split_both_in left_for sum32
  both_as ca cb = go (true_or_false rings)
    where
      go : (rings ≡ true) ⊎ (rings ≡ false)
          → split_ends_in Both degrees sides ends labels blocks a b (length es) rings ≡ split_both_in degrees sides ends labels blocks a b (length es)
      go (inl t) = rw t
      go (inr f) = rw (f, ring_no pr sh a b ca (off a ca f), ring_no pr sh b a cb (off b cb f))
