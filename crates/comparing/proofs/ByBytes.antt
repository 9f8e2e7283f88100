-- The verdict by bytes: two texts agree if they have all bytes in common, and else the first wrong line is behind as many line ends as they
-- have in common at their beginning.
use Rattle.std.specs.Prelude.{if◌then◌else◌}
use mathlib.Core.Path.{◌≡◌, refl, sym, ap, subst, ◌∙◌}
use Prim.Native.Nat.{ℕ, suc, ◌+◌, ◌≤◌, ◌<◌}
use native.Mathlib.Omega.{arith}
use native.Mathlib.Decide.{ℕ_discrete}
use mathlib.Core.Bool.{Bool, true, false}
use mathlib.Core.List.{List, [], ◌∷◌, ◌++◌}
use lib.ListN.{length, take, length-append}
use lib.Dec.{eqb}
use borrow.Author.Tests.{eq-eqb, ne_eqb}
use Rattle.model.specs.Tables.{eq_list}
use Rattle.model.specs.Judging.{agrees, wrong_line, ahead, split_lines, compare_lines, compare_texts}
use Rattle.theory.proofs.Judging.{Full, lines_full, same_agrees}
use Rattle.comparing.specs.Beginnings.{common, end_at, line_ends}

-- ---- the same byte in front of both texts

ahead_same : (k b : ℕ) (ws ls : List (List ℕ)) → Full ws → Full ls → compare_lines k (ahead b ws) (ahead b ls) ≡ compare_lines k ws ls
unfolding compare_lines ahead eq_list
ahead_same k b [] [] f g = rw (eq-eqb b b refl, eq_list, compare_lines)
ahead_same k b [] ((y ∷ l) ∷ ls) f g = rw (eq-eqb b b refl, eq_list, compare_lines)
ahead_same k b ((x ∷ w) ∷ ws) [] f g = rw (eq-eqb b b refl, eq_list, compare_lines)
ahead_same k b ((x ∷ w) ∷ ws) ((y ∷ l) ∷ ls) f g = rw (eq-eqb b b refl, eq_list, compare_lines)
ahead_same k b ([] ∷ ws) ls f g = absurd (f.0 refl)
ahead_same k b [] ([] ∷ ls) f g = absurd (g.0 refl)
ahead_same k b ((x ∷ w) ∷ ws) ([] ∷ ls) f g = absurd (g.0 refl)

end_first : (k b : ℕ) (xs ys : List ℕ) → eqb b 10 ≡ true
    → compare_lines k (split_lines (b ∷ xs)) (split_lines (b ∷ ys)) ≡ compare_lines (k + 1) (split_lines xs) (split_lines ys)
unfolding compare_lines split_lines eq_list
end_first k b xs ys e = rw (e, eq-eqb b b refl, eq_list, compare_lines)

other_first : (k b : ℕ) (xs ys : List ℕ) → eqb b 10 ≡ false
    → compare_lines k (split_lines (b ∷ xs)) (split_lines (b ∷ ys)) ≡ compare_lines k (split_lines xs) (split_lines ys)
unfolding split_lines
other_first k b xs ys e = rw e (ahead_same k b (split_lines xs) (split_lines ys) (lines_full xs) (lines_full ys))

-- ---- other bytes in front

begins : (b : ℕ) (bs : List ℕ) → (l : List ℕ) × ((ls : List (List ℕ)) × (split_lines (b ∷ bs) ≡ (b ∷ l) ∷ ls))
unfolding split_lines ahead
begins b bs = go (eqb b 10) refl (split_lines bs) refl
  where
    go : (t : Bool) → eqb b 10 ≡ t → (ms : List (List ℕ)) → split_lines bs ≡ ms → (l : List ℕ) × ((ls : List (List ℕ)) × (split_lines (b ∷ bs) ≡ (b ∷ l) ∷ ls))
    go true e ms q = ([], (split_lines bs, rw e))
    go false e [] q = ([], ([], rw (e, q)))
    go false e (m ∷ ms) q = (m, (ms, rw (e, q)))

differ_first : (k a b : ℕ) (xs ys : List ℕ) → (a ≡ b → ⊥) → compare_lines k (split_lines (a ∷ xs)) (split_lines (b ∷ ys)) ≡ wrong_line k
unfolding compare_lines eq_list
differ_first k a b xs ys n =
    let p = begins a xs in
    let q = begins b ys in
    rw (p.1.1, q.1.1, compare_lines, eq_list, ne_eqb a b n)

-- ---- bytes in common

-- equal first bytes are one more in common; different ones leave none
pub common_on : (x y : ℕ) (xs ys : List ℕ) → x ≡ y → common (x ∷ xs) (y ∷ ys) ≡ suc (common xs ys)
unfolding common
common_on x y xs ys e = rw (eq-eqb x y e, common)

pub common_off : (x y : ℕ) (xs ys : List ℕ) → (x ≡ y → ⊥) → common (x ∷ xs) (y ∷ ys) ≡ 0
unfolding common
common_off x y xs ys e = rw (ne_eqb x y e, common)

pub common_le : (xs ys : List ℕ) → (common xs ys ≤ length xs) × (common xs ys ≤ length ys)
unfolding common
common_le [] ys = (omega arith, omega arith)
common_le (x ∷ xs) [] = (omega arith, omega arith)
common_le (x ∷ xs) (y ∷ ys) = go (ℕ_discrete x y) (common_le xs ys)
  where
    go : Dec (x ≡ y) → (common xs ys ≤ length xs) × (common xs ys ≤ length ys)
        → (common (x ∷ xs) (y ∷ ys) ≤ length (x ∷ xs)) × (common (x ∷ xs) (y ∷ ys) ≤ length (y ∷ ys))
    go (yes e) h = (omega (arith, common_on x y xs ys e, h.0), omega (arith, common_on x y xs ys e, h.1))
    go (no n) h = (omega (arith, common_off x y xs ys n), omega (arith, common_off x y xs ys n))

-- a byte ends at most one line, so a text has at most as many line ends as bytes
pub end_le : (b : ℕ) → end_at b ≤ 1
unfolding end_at
end_le b = go (eqb b 10)
  where
    go : (t : Bool) → (if t then 1 else 0) ≤ 1
    go true = omega arith
    go false = omega arith

pub ends_le : (xs : List ℕ) → line_ends xs ≤ length xs
unfolding line_ends
ends_le [] = omega arith
ends_le (x ∷ xs) = omega (arith, end_le x, ends_le xs)

-- ---- the verdict, of lines from number k on

-- the first wrong line, in line ends in common
abbrev Behind : ℕ → List ℕ → List ℕ → Type 0
Behind k xs ys = compare_lines k (split_lines xs) (split_lines ys) ≡ wrong_line (k + line_ends (take (common xs ys) xs))

behind_on : (k x : ℕ) (xs ys : List ℕ) → Behind (k + 1) xs ys → Behind k xs ys → Behind k (x ∷ xs) (x ∷ ys)
unfolding line_ends end_at
behind_on k x xs ys ih jh = rw (common_on x x xs ys refl) (go (eqb x 10) refl)
  where
    go : (t : Bool) → eqb x 10 ≡ t
        → compare_lines k (split_lines (x ∷ xs)) (split_lines (x ∷ ys)) ≡ wrong_line (k + ((if eqb x 10 then 1 else 0) + line_ends (take (common xs ys) xs)))
    go true e = rw e (end_first k x xs ys e ∙ ih ∙ ap wrong_line (omega arith))
    go false e = rw e (other_first k x xs ys e ∙ jh ∙ ap wrong_line (omega arith))

none_more : (k : ℕ) → k + 0 ≡ k
none_more k = omega arith

pub differs : (k : ℕ) (xs ys : List ℕ) → common xs ys + common xs ys < length xs + length ys → Behind k xs ys
unfolding common line_ends compare_lines split_lines
differs k [] [] h = absurd (omega arith)
differs k [] (y ∷ ys) h = let q = begins y ys in rw (q.1.1, none_more k)
differs k (x ∷ xs) [] h = let q = begins x xs in rw (q.1.1, none_more k)
differs k (x ∷ xs) (y ∷ ys) h = go (ℕ_discrete x y) (λ n l. differs n xs ys l)
  where
    go : Dec (x ≡ y) → ((n : ℕ) → common xs ys + common xs ys < length xs + length ys → Behind n xs ys) → Behind k (x ∷ xs) (y ∷ ys)
    go (yes e) ih =
        let l : common xs ys + common xs ys < length xs + length ys = omega (arith, h, common_on x y xs ys e) in
        subst (λ (z : ℕ). Behind k (x ∷ xs) (z ∷ ys)) e (behind_on k x xs ys (ih (k + 1) l) (ih k l))
    go (no n) ih = rw (common_off x y xs ys n) (differ_first k x y xs ys n ∙ ap wrong_line (omega arith))

pub all_common : (xs ys : List ℕ) → length xs ≤ common xs ys → length ys ≤ common xs ys → xs ≡ ys
unfolding common
all_common [] [] h l = refl
all_common [] (y ∷ ys) h l = absurd (omega arith)
all_common (x ∷ xs) [] h l = absurd (omega arith)
all_common (x ∷ xs) (y ∷ ys) h l = go (ℕ_discrete x y) (λ a b. all_common xs ys a b)
  where
    go : Dec (x ≡ y) → (length xs ≤ common xs ys → length ys ≤ common xs ys → xs ≡ ys) → x ∷ xs ≡ y ∷ ys
    go (yes e) ih =
        let c = common_on x y xs ys e in
        let t : xs ≡ ys = ih (omega (arith, h, c)) (omega (arith, l, c)) in
        λ i. e i ∷ t i
    go (no n) ih = absurd (omega (arith, h, common_off x y xs ys n))

-- ---- the ways out of `compare_texts`

-- all bytes of both are in common: the texts agree
pub text_same : (right text : List ℕ) (c : ℕ) → c ≡ common right text → length right ≤ c → length text ≤ c → agrees ≡ compare_texts right text
text_same right text c e h l =
    let same : right ≡ text = all_common right text (omega arith) (omega arith) in
    sym (subst (λ (t : List ℕ). compare_texts right t ≡ agrees) same (same_agrees right))

text_differs : (right text : List ℕ) (c n : ℕ) → c ≡ common right text → n ≡ line_ends (take c right) → c + c < length right + length text
    → wrong_line (1 + n) ≡ compare_texts right text
unfolding compare_texts
text_differs right text c n e f h =
    rw (f, e) (sym (differs 1 right text (omega arith)))

-- one of the texts has more: wrong is the line behind as many line ends as they have in common
pub right_longer : (right text : List ℕ) (c n : ℕ) → c ≡ common right text → n ≡ line_ends (take c right) → c < length right
    → wrong_line (1 + n) ≡ compare_texts right text
right_longer right text c n e f h = text_differs right text c n e f (omega (arith, e, h, (common_le right text).1))

pub text_longer : (right text : List ℕ) (c n : ℕ) → c ≡ common right text → n ≡ line_ends (take c right) → c < length text
    → wrong_line (1 + n) ≡ compare_texts right text
text_longer right text c n e f h = text_differs right text c n e f (omega (arith, e, h, (common_le right text).0))

-- ---- a text longer than the right one: what stands behind its beginning says nothing more

common_more : (xs ys zs : List ℕ) → length xs ≤ length ys → common xs (ys ++ zs) ≡ common xs ys
unfolding common
common_more [] ys zs h = refl
common_more (x ∷ xs) [] zs h = absurd (omega arith)
common_more (x ∷ xs) (y ∷ ys) zs h = ap (λ (n : ℕ). elim (eqb x y) [ true ↦ suc n | false ↦ 0 ]) (common_more xs ys zs (omega arith))

pub longer_same : (right text rest : List ℕ) → length right < length text → compare_texts right (text ++ rest) ≡ compare_texts right text
unfolding compare_texts
longer_same right text rest h =
    let c = (common_le right text).0 in
    let d = (common_le right (text ++ rest)).0 in
    let n = length-append text rest in
    let e : common right (text ++ rest) ≡ common right text = common_more right text rest (omega arith) in
    differs 1 right (text ++ rest) (omega (arith, d, n)) ∙ rw e (sym (differs 1 right text (omega (arith, c))))
