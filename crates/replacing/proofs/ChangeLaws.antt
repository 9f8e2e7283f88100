-- The labels that differ, counted and written in turn; and that they are the changes of the definition.
use Rattle.std.specs.Prelude.{if◌then◌else◌}
use mathlib.Core.Path.{◌≡◌, refl, sym, ap, ◌∙◌}
use Prim.Native.Nat.{ℕ, zero, suc, ◌+◌, ◌-◌, ◌≤◌, ◌<◌}
use native.Mathlib.Omega.{arith}
use native.Mathlib.Nat.{not-suc-le-zero}
use native.Mathlib.Numerals.{add-one}
use mathlib.Core.Bool.{Bool, true, false}
use mathlib.Core.List.{List, [], ◌∷◌, ◌++◌}
use lib.ListN.{length, get_or, length-append}
use lib.Dec.{eqb}
use borrow.Author.Tests.{eq-eqb, ne_eqb}
use Rattle.text.specs.Pages.{Page, page, write}
use Rattle.text.proofs.PageLaws.{write_append}
use Rattle.nursery.specs.Removal.{Change, change_numbers, changes_from}
use Rattle.replacing.specs.Changes.{change_at, changes_in}

-- one label, the same or another
pub change_none : (v old new : ℕ) → old ≡ new → change_at v old new ≡ []
unfolding change_at
change_none v old new e = rw (eq-eqb old new e)

pub change_one : (v old new : ℕ) → (old ≡ new → ⊥) → change_at v old new ≡ record { vertex = v; old = old; new = new } ∷ []
unfolding change_at
change_one v old new e = rw (ne_eqb old new e)

pub put_none : (out : List ℕ) (at v old new : ℕ) → old ≡ new → page out at ≡ write (change_numbers (change_at v old new)) (page out at)
unfolding write change_numbers
put_none out at v old new e = rw (change_none v old new e)

pub put_one : (p q : Page) (v old new : ℕ) → (old ≡ new → ⊥) → q ≡ write (v ∷ old ∷ new ∷ []) p → q ≡ write (change_numbers (change_at v old new)) p
unfolding change_numbers
put_one p q v old new e h = rw (change_one v old new e, change_numbers) h

change_length : (v old new : ℕ) → length (change_at v old new) ≡ (if eqb old new then 0 else 1)
unfolding change_at
change_length v old new = go (eqb old new)
  where
    go : (b : Bool) → length {A = Change} (if b then [] else record { vertex = v; old = old; new = new } ∷ []) ≡ (if b then 0 else 1)
    go true = refl
    go false = refl

pub changed_small : (old new : ℕ) → (if eqb old new then 0 else 1) ≤ 1
changed_small old new = go (eqb old new)
  where
    go : (b : Bool) → (if b then 0 else 1) ≤ 1
    go true = omega arith
    go false = omega arith

numbers_append : (cs ds : List Change) → change_numbers (cs ++ ds) ≡ change_numbers cs ++ change_numbers ds
unfolding change_numbers
numbers_append [] ds = refl
numbers_append (c ∷ cs) ds = ap (λ (ns : List ℕ). c.vertex ∷ c.old ∷ c.new ∷ ns) (numbers_append cs ds)

module _ (olds news : List ℕ) where
  none_left : (n v : ℕ) → n ≤ 0 → changes_in olds news n v ≡ []
  unfolding changes_in
  none_left zero v h = refl
  none_left (suc n) v h = absurd (not-suc-le-zero h)

  turn : (n v : ℕ) → v < n → changes_in olds news (n - v) v ≡ change_at v (get_or olds v 0) (get_or news v 0) ++ changes_in olds news (n - (v + 1)) (v + 1)
  unfolding changes_in
  turn n v h = let next : n - v ≡ suc (n - (v + 1)) = omega (arith, h) in rw next

  -- counting: a turn of the loop, and its end
  pub count_turn : (n v k old new more : ℕ) → v < n → old ≡ get_or olds v 0 → new ≡ get_or news v 0 → more ≡ (if eqb old new then 0 else 1)
      → k + more + length (changes_in olds news (n - (v + 1)) (v + 1)) ≡ k + length (changes_in olds news (n - v) v)
  count_turn n v k old new more h a b m =
      let l : length (change_at v old new) ≡ more = change_length v old new ∙ sym m in
      let t : changes_in olds news (n - v) v ≡ change_at v old new ++ changes_in olds news (n - (v + 1)) (v + 1) = rw (a, b) (turn n v h) in
      let s : length (changes_in olds news (n - v) v) ≡ length (change_at v old new ++ changes_in olds news (n - (v + 1)) (v + 1)) = ap length t in
      omega (arith, s, l, length-append (change_at v old new) (changes_in olds news (n - (v + 1)) (v + 1)))

  pub count_end : (n v k all : ℕ) → n ≤ v → k + length (changes_in olds news (n - v) v) ≡ all → k ≡ all
  count_end n v k all h e = let z : length (changes_in olds news (n - v) v) ≡ 0 = ap length (none_left (n - v) v (omega (arith, h))) in omega (arith, e, z)

  -- writing: the same
  pub put_turn : (n v old new : ℕ) (p q : Page) → v < n → old ≡ get_or olds v 0 → new ≡ get_or news v 0 → q ≡ write (change_numbers (change_at v old new)) p
      → write (change_numbers (changes_in olds news (n - (v + 1)) (v + 1))) q ≡ write (change_numbers (changes_in olds news (n - v) v)) p
  put_turn n v old new p q h a b e =
      let rest = changes_in olds news (n - (v + 1)) (v + 1) in
      let t : changes_in olds news (n - v) v ≡ change_at v old new ++ rest = rw (a, b) (turn n v h) in
      ap (write (change_numbers rest)) e
      ∙ sym (write_append (change_numbers (change_at v old new)) (change_numbers rest) p)
      ∙ ap (λ (ns : List ℕ). write ns p) (sym (numbers_append (change_at v old new) rest) ∙ ap change_numbers (sym t))

  pub put_end : (n v : ℕ) (p q : Page) → n ≤ v → write (change_numbers (changes_in olds news (n - v) v)) p ≡ q → p.slice ≡ q.slice
  unfolding write change_numbers
  put_end n v p q h e =
      let z : write (change_numbers (changes_in olds news (n - v) v)) p ≡ p = ap (λ (cs : List Change). write (change_numbers cs) p) (none_left (n - v) v (omega (arith, h))) in
      ap (λ (x : Page). x.slice) (sym z ∙ e)

-- ---- over whole lists of one length these are the changes

past : (x : ℕ) (xs : List ℕ) (v : ℕ) → get_or (x ∷ xs) (suc v) 0 ≡ get_or xs v 0
past x xs v = refl

-- the lists from a place on: `skip` elements stand before it
changes_on : (olds news : List ℕ) (n v : ℕ) (xs ys : List ℕ) → length xs ≡ n → length ys ≡ n
    → ((k : ℕ) → get_or xs k 0 ≡ get_or olds (v + k) 0) → ((k : ℕ) → get_or ys k 0 ≡ get_or news (v + k) 0)
    → changes_in olds news n v ≡ changes_from v xs ys
unfolding changes_in changes_from change_at
changes_on olds news zero v [] ys p q f g = refl
changes_on olds news zero v (x ∷ xs) ys p q f g = absurd (omega arith)
changes_on olds news (suc n) v [] ys p q f g = absurd (omega arith)
changes_on olds news (suc n) v (x ∷ xs) [] p q f g = absurd (omega arith)
changes_on olds news (suc n) v (x ∷ xs) (y ∷ ys) p q f g =
    go (eqb x y) refl (changes_on olds news n (v + 1) xs ys (omega arith) (omega arith) (λ k. f (suc k) ∙ ap (λ (i : ℕ). get_or olds i 0) (on k)) (λ k. g (suc k) ∙ ap (λ (i : ℕ). get_or news i 0) (on k)))
  where
    on : (k : ℕ) → v + suc k ≡ v + 1 + k
    on k = omega arith

    here : v + 0 ≡ v
    here = omega arith

    old : get_or olds v 0 ≡ x
    old = sym (f 0 ∙ ap (λ (i : ℕ). get_or olds i 0) here)

    new : get_or news v 0 ≡ y
    new = sym (g 0 ∙ ap (λ (i : ℕ). get_or news i 0) here)

    go : (b : Bool) → eqb x y ≡ b → changes_in olds news n (v + 1) ≡ changes_from (v + 1) xs ys → changes_in olds news (suc n) v ≡ changes_from v (x ∷ xs) (y ∷ ys)
    go true e ih = rw (old, new, e, changes_from, ih, add-one)
    go false e ih = rw (old, new, e, changes_from, ih, add-one)

pub changes_are : (olds news : List ℕ) (n : ℕ) → length olds ≡ n → length news ≡ n → changes_in olds news n 0 ≡ changes_from 0 olds news
changes_are olds news n p q = changes_on olds news n 0 olds news p q (λ k. ap (λ (i : ℕ). get_or olds i 0) (none k)) (λ k. ap (λ (i : ℕ). get_or news i 0) (none k))
  where
    none : (k : ℕ) → k ≡ 0 + k
    none k = omega arith
