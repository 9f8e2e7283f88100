-- A round over all edges, edge by edge.
use mathlib.Core.Path.{◌≡◌, refl, sym, ◌∙◌}
use Prim.Native.Nat.{ℕ, zero, suc, ◌+◌, ◌≤◌, ◌<◌}
use native.Mathlib.Nat.{not-suc-le-zero, le_of_suc-le-suc}
use native.Mathlib.Omega.{arith}
use mathlib.Core.List.{List, [], ◌∷◌}
use lib.ListN.{length, get_or, set}
use borrow.Author.Count.{below_more}
use Rattle.model.specs.Basics.{sum}
use Rattle.relaxing.specs.Distances.{no_vertex, Bounded, Keeps, Still, Relaxed, rests, lowers, Counted, Round, Settled}
use Rattle.relaxing.proofs.Relaxing.{keeps_same, keeps_on, relaxed_keeps}
use Rattle.relaxing.proofs.Edges.{ends_below}

-- a store changes the sum by what it changes the element
sum_set : (l : List ℕ) (i v : ℕ) → i < length l → sum (set l i v) + get_or l i 0 ≡ sum l + v
unfolding sum
sum_set [] i v h = absurd (not-suc-le-zero h)
sum_set (x ∷ l) zero v h = omega arith
sum_set (x ∷ l) (suc i) v h = omega (arith, sum_set l i v (le_of_suc-le-suc h))

-- a round so far: after the edges below e
pub record SoFar (ends lengths : List ℕ) (m : ℕ) (distances₀ distances : List ℕ) (best changes e : ℕ) : Type 0 where
  pub keeps : Keeps ends lengths m distances₀ distances
  pub falls : sum distances + changes ≤ sum distances₀
  pub few : changes ≤ e
  pub same : changes ≡ 0 → distances ≡ distances₀
  pub still : changes ≡ 0 → (k : ℕ) → k < e → Still ends lengths distances₀ best k

module _ (ends lengths : List ℕ) (m : ℕ) where
  -- a round so far: at the start, one edge further, at the end
  pub so_far_none : (distances : List ℕ) (best : ℕ) → Bounded ends lengths m distances → SoFar ends lengths m distances distances best 0 0
  so_far_none distances best b = record {
    keeps = keeps_same b;
    falls = omega arith;
    few = omega arith;
    same = λ _. refl;
    still = λ _ k l. absurd (not-suc-le-zero l);
  }

  pub so_far_more : (distances₀ distances distances' : List ℕ) (best changes count e r : ℕ) → e < m → SoFar ends lengths m distances₀ distances best changes e
      → Relaxed ends lengths distances distances' best e r → Counted changes r count → SoFar ends lengths m distances₀ distances' best count (e + 1)
  so_far_more distances₀ distances distances' best changes count e r l f (rests p q s) c =
      let k : count ≡ changes = c.rested p in
      record {
        keeps = rw q f.keeps;
        falls = rw (q, k) f.falls;
        few = omega (arith, f.few);
        same = λ z. q ∙ f.same (sym k ∙ z);
        still = λ z. below_more _ _ (f.still (sym k ∙ z)) (rw (f.same (sym k ∙ z)) at s);
      }
  so_far_more distances₀ distances distances' best changes count e r l f (lowers u j c q) n =
      let b = f.keeps.bounded in
      let rn = (ends_below b.searchable l j).0 in
      let ne : r ≡ no_vertex → ⊥ = λ z. omega arith in
      let k : count ≡ changes + 1 = n.lowered ne in
      let s = sum_set distances r (get_or lengths e 0 + get_or distances u 0) (omega (arith, b.room)) in
      record {
        keeps = keeps_on f.keeps (relaxed_keeps ends lengths m distances b distances' best e r l (lowers u j c q));
        falls = rw q (omega (arith, f.falls));
        few = omega (arith, f.few);
        same = λ z. absurd (omega arith);
        still = λ z. absurd (omega arith);
      }

  pub so_far_all : (distances₀ distances : List ℕ) (best changes e : ℕ) → m ≤ e → SoFar ends lengths m distances₀ distances best changes e
      → Round ends lengths m distances₀ distances best changes
  so_far_all distances₀ distances best changes e l f = record {
    keeps = f.keeps;
    falls = f.falls;
    same = f.same;
    still = λ z k b. f.still z k (omega arith);
  }

  -- distances that no edge lowers are settled
  pub still_settled : (from : ℕ) (distances₀ distances : List ℕ) (best : ℕ) → Keeps ends lengths m distances₀ distances → best ≡ get_or distances from 0
      → ((e : ℕ) → e < m → Still ends lengths distances best e) → Settled ends lengths m from distances₀ distances
  still_settled from distances₀ distances best k q s = record { keeps = k; still = rw q at s }

  -- a round that changes nothing settles the distances
  pub round_settled : (from : ℕ) (distances₀ distances distances' : List ℕ) (best changes : ℕ) → Keeps ends lengths m distances₀ distances
      → best ≡ get_or distances from 0 → changes ≡ 0 → Round ends lengths m distances distances' best changes → Settled ends lengths m from distances₀ distances'
  round_settled from distances₀ distances distances' best changes k q z r = record {
    keeps = keeps_on k r.keeps;
    still = rw (r.same z) (rw q at (r.still z));
  }
