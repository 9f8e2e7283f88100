-- Volumes of which one may be unknown: which lists have one volume, and their volume added up number by number.
use Rattle.std.specs.Prelude.{if◌then◌else◌}
use mathlib.Core.Path.{◌≡◌, refl, sym, ap, ◌∙◌}
use mathlib.Core.Logic.{◌⊎◌, inl, inr}
use Prim.Native.Nat.{ℕ, ◌+◌, ◌≤◌}
use native.Mathlib.Omega.{arith}
use mathlib.Core.Bool.{Bool, true, false, ◌||◌, true≢false}
use mathlib.Core.List.Memᴰ.{cases_cons as mem-cases}
use mathlib.Core.List.Memᴰ.{head as at_head}
use mathlib.Core.List.Memᴰ.{not-nil as mem-nil}
use mathlib.Core.List.Memᴰ.{tail as in_Tail}
use mathlib.Core.List.{List, [], ◌∷◌, ◌++◌, map, reverse, reverse-cons, Memᴰ as Mem}
use lib.Dec.{eqb}
use borrow.Author.Tests.{eq-eqb, eqb-true, eqb-false, ne_eqb}
use Rattle.model.specs.Basics.{sum}
use Rattle.model.specs.Graph.{any_unknown, volume_sum}
use Rattle.model.proofs.Basics.Booleans.{true_or_false}
use Rattle.model.proofs.Basics.Lists.{weights_append, weights_reverse}

-- ---- the volume follows from the sum and from whether one is unknown

-- lists with the same sum, of which both or none have an unknown volume, have one volume
pub volume_same : (vs ws : List ℕ) → any_unknown vs ≡ any_unknown ws → sum vs ≡ sum ws → volume_sum vs ≡ volume_sum ws
unfolding volume_sum
volume_same vs ws a s = rw (a, s) refl

-- the volume is at most the sum
pub volume_most : (vs : List ℕ) → volume_sum vs ≤ sum vs
unfolding volume_sum
volume_most vs = go (any_unknown vs)
  where
    go : (b : Bool) → (if b then 0 else sum vs) ≤ sum vs
    go true = omega arith
    go false = omega arith

-- ---- which is unknown

-- where one is unknown, it is one of them
pub unknown_in : (g : ℕ → ℕ) (ds : List ℕ) → any_unknown (map g ds) ≡ true → (d : ℕ) × Mem d ds × (g d ≡ 0)
unfolding any_unknown
unknown_in g [] h = absurd (true≢false (sym h))
unknown_in g (d ∷ ds) h = go (eqb (g d) 0) refl h (λ k. unknown_in g ds k)
  where
    go : (b : Bool) → eqb (g d) 0 ≡ b → (b || any_unknown (map g ds)) ≡ true
        → (any_unknown (map g ds) ≡ true → (c : ℕ) × Mem c ds × (g c ≡ 0)) → (c : ℕ) × Mem c (d ∷ ds) × (g c ≡ 0)
    go true e k ih = (d, at_head refl, eqb-true (g d) 0 e)
    go false e k ih = let i = ih k in (i.0, in_Tail i.1, i.2)

or_right : (a : Bool) {b : Bool} → b ≡ true → (a || b) ≡ true
or_right true h = refl
or_right false h = h

pub in_unknown : (g : ℕ → ℕ) (ds : List ℕ) (d : ℕ) → Mem d ds → g d ≡ 0 → any_unknown (map g ds) ≡ true
unfolding any_unknown
in_unknown g [] d m z = absurd (mem-nil m)
in_unknown g (c ∷ ds) d m z = go (mem-cases m) (λ k. in_unknown g ds d k z)
  where
    go : (d ≡ c) ⊎ Mem d ds → (Mem d ds → any_unknown (map g ds) ≡ true) → (eqb (g c) 0 || any_unknown (map g ds)) ≡ true
    go (inl e) ih = let i : eqb (g c) 0 ≡ true = eq-eqb (g c) 0 (rw (← e) z) in rw i
    go (inr k) ih = or_right (eqb (g c) 0) (ih k)

-- lists with the same members
pub unknown_same : (g : ℕ → ℕ) (xs ys : List ℕ) → ((k : ℕ) → Mem k xs → Mem k ys) → ((k : ℕ) → Mem k ys → Mem k xs)
    → any_unknown (map g xs) ≡ any_unknown (map g ys)
unknown_same g xs ys f b = go (true_or_false (any_unknown (map g xs))) (true_or_false (any_unknown (map g ys)))
  where
    to : (cs ds : List ℕ) → ((k : ℕ) → Mem k cs → Mem k ds) → any_unknown (map g cs) ≡ true → any_unknown (map g ds) ≡ true
    to cs ds m h = let u = unknown_in g cs h in in_unknown g ds u.0 (m u.0 u.1) u.2

    go : (any_unknown (map g xs) ≡ true) ⊎ (any_unknown (map g xs) ≡ false) → (any_unknown (map g ys) ≡ true) ⊎ (any_unknown (map g ys) ≡ false)
        → any_unknown (map g xs) ≡ any_unknown (map g ys)
    go (inl h) k = h ∙ sym (to xs ys f h)
    go (inr h) (inl k) = to ys xs b k ∙ sym k
    go (inr h) (inr k) = h ∙ sym k

-- ---- joined lists, and a list read backwards

or_assoc : (a b c : Bool) → ((a || b) || c) ≡ (a || (b || c))
or_assoc true b c = refl
or_assoc false b c = refl

or_swap : (a b : Bool) → (a || b) ≡ (b || a)
or_swap true true = refl
or_swap true false = refl
or_swap false true = refl
or_swap false false = refl

unknown_append : (g : ℕ → ℕ) (xs ys : List ℕ) → any_unknown (map g (xs ++ ys)) ≡ (any_unknown (map g xs) || any_unknown (map g ys))
unfolding any_unknown
unknown_append g [] ys = refl
unknown_append g (x ∷ xs) ys =
    ap (λ (b : Bool). eqb (g x) 0 || b) (unknown_append g xs ys) ∙ sym (or_assoc (eqb (g x) 0) (any_unknown (map g xs)) (any_unknown (map g ys)))

unknown_swap : (g : ℕ → ℕ) (xs ys : List ℕ) → any_unknown (map g (xs ++ ys)) ≡ any_unknown (map g (ys ++ xs))
unknown_swap g xs ys =
    unknown_append g xs ys ∙ or_swap (any_unknown (map g xs)) (any_unknown (map g ys)) ∙ sym (unknown_append g ys xs)

unknown_reverse : (g : ℕ → ℕ) (xs : List ℕ) → any_unknown (map g (reverse xs)) ≡ any_unknown (map g xs)
unfolding any_unknown
unknown_reverse g [] = refl
unknown_reverse g (x ∷ xs) =
    ap (λ (zs : List ℕ). any_unknown (map g zs)) (reverse-cons x xs)
    ∙ unknown_swap g (reverse xs) (x ∷ [])
    ∙ ap (λ (b : Bool). eqb (g x) 0 || b) (unknown_reverse g xs)

-- round d, and the same numbers with d first
pub volume_around : (g : ℕ → ℕ) (xs : List ℕ) (d : ℕ) (ys : List ℕ)
    → volume_sum (map g (reverse xs ++ (d ∷ ys))) ≡ volume_sum (map g (d ∷ (ys ++ xs)))
volume_around g xs d ys =
    volume_same _ _
    (unknown_append g (reverse xs) (d ∷ ys) ∙ ap (λ (b : Bool). b || any_unknown (map g (d ∷ ys))) (unknown_reverse g xs)
    ∙ sym (unknown_append g xs (d ∷ ys)) ∙ unknown_swap g xs (d ∷ ys))
    (omega (arith, weights_append g (reverse xs) (d ∷ ys), weights_reverse g xs, weights_append g (d ∷ ys) xs))

-- ---- number by number

-- two volumes together: unknown if one of them is
unfoldable pub plus_volume : ℕ → ℕ → ℕ
plus_volume v w = if eqb v 0 || eqb w 0 then 0 else v + w

-- and one after the other onto what is known so far
unfoldable pub volume_onto : ℕ → List ℕ → ℕ
volume_onto known [] = known
volume_onto known (v ∷ vs) = volume_onto (plus_volume known v) vs

one_alone : (v : ℕ) → v ≡ volume_sum (v ∷ [])
unfolding volume_sum any_unknown sum
one_alone v = go (eqb v 0) refl
  where
    go : (b : Bool) → eqb v 0 ≡ b → v ≡ (if b || false then 0 else v + 0)
    go true e = eqb-true v 0 e
    go false e = omega arith

two_together : (v w : ℕ) (vs : List ℕ) → volume_sum (plus_volume v w ∷ vs) ≡ volume_sum (v ∷ w ∷ vs)
unfolding plus_volume volume_sum any_unknown sum
two_together v w vs = go (eqb v 0) (eqb w 0) refl refl
  where
    go : (a b : Bool) → eqb v 0 ≡ a → eqb w 0 ≡ b → volume_sum ((if a || b then 0 else v + w) ∷ vs) ≡ volume_sum (v ∷ w ∷ vs)
    go true b e f = rw (e, any_unknown, volume_sum)
    go false true e f = rw (e, f, any_unknown, volume_sum)
    go false false e f =
        let n : eqb (v + w) 0 ≡ false = ne_eqb (v + w) 0 (λ z. omega (arith, eqb-false v 0 e)) in
        volume_same ((v + w) ∷ vs) (v ∷ w ∷ vs) (rw (n, e, f, any_unknown)) (omega arith)

-- the volume of a list, added up onto its first
pub volume_fold : (known : ℕ) (vs : List ℕ) → volume_onto known vs ≡ volume_sum (known ∷ vs)
unfolding volume_onto
volume_fold known [] = one_alone known
volume_fold known (v ∷ vs) = volume_fold (plus_volume known v) vs ∙ two_together known v vs

-- adding up a joined list is adding up one part after the other
pub onto_append : (known : ℕ) (vs ws : List ℕ) → volume_onto known (vs ++ ws) ≡ volume_onto (volume_onto known vs) ws
unfolding volume_onto
onto_append known [] ws = refl
onto_append known (v ∷ vs) ws = onto_append (plus_volume known v) vs ws
