-- Counting back over records: which record answers, and when none does.
use mathlib.Core.Path.{◌≡◌, refl, sym, ap, ◌∙◌}
use Prim.Native.Nat.{ℕ, ◌+◌, ◌-◌, ◌≤◌, ◌<◌}
use native.Mathlib.Omega.{arith}
use mathlib.Core.Bool.{Bool, true, false}
use mathlib.Core.List.{List, [], ◌∷◌, ◌++◌}
use lib.Dec.{ltb}
use borrow.Author.Tests.{ltb-true, ltb-false, lt-ltb, le-ltb}
use Rattle.valve.specs.Window.{Record, total}
use Rattle.valve.specs.Valve.{recipe_is, older, refuses, at_valve}
use Rattle.valve.specs.Series.{HoldsNumber}

module _ (v : ℕ) (r : Record) (rs : List Record) where
  back_here : ltb v r.amount ≡ true → at_valve v (r ∷ rs) ≡ recipe_is r.recipe
  unfolding at_valve
  back_here e = rw (e, at_valve)

  back_on : ltb v r.amount ≡ false → at_valve v (r ∷ rs) ≡ at_valve (v - r.amount) rs
  unfolding at_valve
  back_on e = rw (e, at_valve)

-- ---- older exactly if the records hold at most v ml

-- the answer is "older" exactly if the records hold at most v ml
pub older_only : (v : ℕ) (rs : List Record) → total rs ≤ v → at_valve v rs ≡ older
unfolding total at_valve
older_only v [] h = refl
older_only v (r ∷ rs) h = back_on v r rs (le-ltb v r.amount (omega arith)) ∙ older_only (v - r.amount) rs (omega arith)

pub older_then : (v : ℕ) (rs : List Record) → at_valve v rs ≡ older → total rs ≤ v
unfolding total
older_then v [] e = omega arith
older_then v (r ∷ rs) e = go (ltb v r.amount) refl (λ h. older_then (v - r.amount) rs h)
  where
    go : (t : Bool) → ltb v r.amount ≡ t → (at_valve (v - r.amount) rs ≡ older → total rs ≤ v - r.amount) → r.amount + total rs ≤ v
    go true t ih = absurd (let q : recipe_is r.recipe ≡ older = sym (back_here v r rs t) ∙ e in let z : ◌≡◌ {A = ℕ} 0 1 = cc in omega arith)
    go false t ih = let l : r.amount ≤ v = ltb-false v r.amount t in omega (arith, ih (sym (back_on v r rs t) ∙ e))

-- ---- an answer is no refusal

-- counting back gives no refusal
pub never_refuses : (v n : ℕ) (rs : List Record) → at_valve v rs ≡ refuses n → ⊥
unfolding at_valve
never_refuses v n [] e = let z : ◌≡◌ {A = ℕ} 0 1 = cc in omega arith
never_refuses v n (r ∷ rs) e = go (ltb v r.amount) refl (λ h. never_refuses (v - r.amount) n rs h)
  where
    go : (t : Bool) → ltb v r.amount ≡ t → (at_valve (v - r.amount) rs ≡ refuses n → ⊥) → ⊥
    go true t ih = let q : recipe_is r.recipe ≡ refuses n = sym (back_here v r rs t) ∙ e in let z : ◌≡◌ {A = ℕ} 0 1 = cc in omega arith
    go false t ih = ih (sym (back_on v r rs t) ∙ e)

-- ---- the record that answers

-- the recipe that is answered is that of a record which holds the ml number v + 1
pub answered_by : (v x : ℕ) (rs : List Record) → at_valve v rs ≡ recipe_is x → (r : Record) × (HoldsNumber v rs r × (r.recipe ≡ x))
unfolding at_valve total
answered_by v x [] e = absurd (let z : ◌≡◌ {A = ℕ} 0 1 = cc in omega arith)
answered_by v x (r ∷ rs) e = go (ltb v r.amount) refl (λ h. answered_by (v - r.amount) x rs h)
  where
    go : (t : Bool) → ltb v r.amount ≡ t
        → (at_valve (v - r.amount) rs ≡ recipe_is x → (s : Record) × (HoldsNumber (v - r.amount) rs s × (s.recipe ≡ x)))
        → (s : Record) × (HoldsNumber v (r ∷ rs) s × (s.recipe ≡ x))
    go true t ih =
        let l : v < r.amount = ltb-true v r.amount t in
        let q : recipe_is r.recipe ≡ recipe_is x = sym (back_here v r rs t) ∙ e in
        (r, (record { newer = []; earlier = rs; stands = refl; newer_hold_at_most = omega arith; reached = omega arith }, cc))
    go false t ih =
        let l : r.amount ≤ v = ltb-false v r.amount t in
        let b = ih (sym (back_on v r rs t) ∙ e) in
        let f = b.1.0 in (
          b.0,
          (
            record {
              newer = r ∷ f.newer;
              earlier = f.earlier;
              stands = ap (λ (xs : List Record). r ∷ xs) f.stands;
              newer_hold_at_most = omega (arith, f.newer_hold_at_most);
              reached = omega (arith, f.reached);
            },
            b.1.1,
          ),
        )

-- a record that holds the ml number v + 1 answers
holding_answers : (v : ℕ) (newer : List Record) (r : Record) (earlier : List Record) → total newer ≤ v → v < total newer + r.amount
    → at_valve v (newer ++ (r ∷ earlier)) ≡ recipe_is r.recipe
unfolding total
holding_answers v [] r earlier h l = back_here v r earlier (lt-ltb v r.amount (omega arith))
holding_answers v (n ∷ ns) r earlier h l =
    back_on v n (ns ++ (r ∷ earlier)) (le-ltb v n.amount (omega arith))
    ∙ holding_answers (v - n.amount) ns r earlier (omega arith) (omega arith)

-- the record that holds the ml number v + 1 answers with its recipe
pub holder_answers : (v : ℕ) (rs : List Record) (r : Record) → HoldsNumber v rs r → at_valve v rs ≡ recipe_is r.recipe
holder_answers v rs r h =
    ap (λ (xs : List Record). at_valve v xs) h.stands ∙ holding_answers v h.newer r h.earlier h.newer_hold_at_most h.reached

-- such a record has at least 1 ml
pub holder_some : (v : ℕ) (rs : List Record) (r : Record) → HoldsNumber v rs r → 0 < r.amount
holder_some v rs r h = omega (arith, h.newer_hold_at_most, h.reached)
