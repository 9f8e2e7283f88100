-- Two walks in lockstep over tables that show the edges find which of the two full walks is shorter, and where that one ends.
use mathlib.Core.Path.{◌≡◌, refl, sym, ◌∙◌}
use mathlib.Core.Logic.{◌≢◌}
use Prim.Native.Nat.{ℕ, zero, suc, ◌≤◌, ◌<◌, min}
use native.Mathlib.Omega.{arith}
use mathlib.Core.Bool.{true, false}
use mathlib.Core.List.{List}
use lib.ListN.{length, get_or}
use Rattle.model.specs.Basics.{max_vertices}
use Rattle.model.specs.Graph.{Edge, Pass, degree, far, is_regular, turn}
use Rattle.tables.specs.Steps.{far_in, turn_in}
use Rattle.tables.specs.Walks.{Met, lockstep_in, steps_ahead}
use Rattle.tables.proofs.Lockstep.{lockstep_first, lockstep_on, lockstep_second}
use Rattle.model.proofs.Walks.Degree.{Proper, is_two, not_two}
use Rattle.model.proofs.Walks.Turn.{At}
use Rattle.model.proofs.Walks.Trail.{Trail, done, pass, Next, next_edge}
use Rattle.agreement.proofs.Linked.{Linked, turn_agrees}

-- the tables that a walk reads say what the edges say
pub record Shows (es : List Edge) (degrees sides ends lows : List ℕ) : Type 0 where
  pub degrees_are : (v : ℕ) → v < max_vertices → get_or degrees v 0 ≡ degree es v
  pub fars_are : (d v : ℕ) → d < length es → far_in ends d v ≡ far es d v
  pub links : (v : ℕ) → v < max_vertices → Linked es sides lows v
  pub below : (v d : ℕ) → At es v d → v < max_vertices

module _ {es : List Edge} {degrees sides ends lows : List ℕ} (sh : Shows es degrees sides ends lows) where
  -- a regular vertex has degree 2 in the table, a singular one has not
  pub shows_regular : {v d : ℕ} → At es v d → is_regular es v ≡ true → get_or degrees v 0 ≡ 2
  shows_regular {v} {d} a c = sh.degrees_are v (sh.below v d a) ∙ is_two es v c

  pub shows_singular : {v d : ℕ} → At es v d → is_regular es v ≡ false → get_or degrees v 0 ≢ 2
  shows_singular {v} {d} a c h = not_two es v c (sym (sh.degrees_are v (sh.below v d a)) ∙ h)

  -- a turn by the sides is the turn at a regular vertex
  pub shows_turn : {v d c : ℕ} → Proper es → At es v d → is_regular es v ≡ true → turn es d v ≡ c → turn_in sides d v ≡ c
  shows_turn {v} {d} pr a r e = turn_agrees es sides lows v d pr (sh.links v (sh.below v d a)) (is_two es v r) a ∙ e

-- where walks with m and n regular vertices that end at v and w meet in lockstep
pub record Meets (degrees : List ℕ) (x : Met) (m n v w : ℕ) : Type 0 where
  pub steps : x.steps ≡ min m n
  pub first_ends : m ≤ n → x.first ≡ v
  pub second_ends : n ≤ m → x.second ≡ w
  pub first_on : n < m → get_or degrees x.first 0 ≡ 2
  pub second_on : m < n → get_or degrees x.second 0 ≡ 2

module _ {es : List Edge} (pr : Proper es) {degrees sides ends lows : List ℕ} (sh : Shows es degrees sides ends lows) where
  -- two walks in lockstep stop where the shorter one ends
  pub lockstep_meets : {d v d₂ v₂ c w c₂ w₂ : ℕ} {ss ts : List Pass} (n : ℕ) → At es v d → At es w c → Trail es d v ss d₂ v₂ → Trail es c w ts c₂ w₂
      → is_regular es v₂ ≡ false → is_regular es w₂ ≡ false → min (length ss) (length ts) ≤ n
      → Meets degrees (lockstep_in degrees sides ends n d v c w) (length ss) (length ts) v₂ w₂
  unfolding steps_ahead
  lockstep_meets {d} {v} {c = c} {w = w} n a b done done j k h =
      rw (lockstep_first degrees sides ends n d v c w (shows_singular sh a j)) (record {
        steps = omega arith;
        first_ends = λ _. refl;
        second_ends = λ _. refl;
        first_on = λ x. absurd (omega arith);
        second_on = λ x. absurd (omega arith);
      })
  lockstep_meets {d} {v} {c = c} {w = w} n a b done (pass e r q u) j k h =
      rw (lockstep_first degrees sides ends n d v c w (shows_singular sh a j)) (record {
        steps = omega arith;
        first_ends = λ _. refl;
        second_ends = λ x. absurd (omega arith);
        first_on = λ x. absurd (omega arith);
        second_on = λ _. shows_regular sh b r;
      })
  lockstep_meets {d} {v} {c = c} {w = w} n a b (pass e r q t) done j k h =
      rw (lockstep_second degrees sides ends n d v c w (shows_regular sh a r) (shows_singular sh b k)) (record {
        steps = omega arith;
        first_ends = λ x. absurd (omega arith);
        second_ends = λ _. refl;
        first_on = λ _. shows_regular sh a r;
        second_on = λ x. absurd (omega arith);
      })
  lockstep_meets zero a b (pass e r q t) (pass e' r' q' u) j k h = absurd (omega arith)
  lockstep_meets {d} {v} {d₂} {v₂} {c} {w} {c₂} {w₂} (suc n) a b (pass {ss = ss} d' r q t) (pass {ss = ts} c' r' q' u) j k h =
      go (lockstep_meets n x.across.at y.across.at t u j k (omega arith))
    where
      x : Next es d v d'
      x = next_edge es d v d' pr a r q

      y : Next es c w c'
      y = next_edge es c w c' pr b r' q'

      go : Meets degrees (lockstep_in degrees sides ends n d' (far es d' v) c' (far es c' w)) (length ss) (length ts) v₂ w₂
          → Meets degrees (lockstep_in degrees sides ends (suc n) d v c w) (suc (length ss)) (suc (length ts)) v₂ w₂
      go f =
          rw (lockstep_on degrees sides ends n d v c w d' (far es d' v) c' (far es c' w) (shows_regular sh a r) (shows_regular sh b r')
          (shows_turn sh pr a r q) (sh.fars_are d' v x.at.inside) (shows_turn sh pr b r' q') (sh.fars_are c' w y.at.inside))
          (record {
            steps = omega (arith, f.steps);
            first_ends = λ l. f.first_ends (omega arith);
            second_ends = λ l. f.second_ends (omega arith);
            first_on = λ l. f.first_on (omega arith);
            second_on = λ l. f.second_on (omega arith);
          })
