-- Writing one list of numbers after the other, and what a page holds then.
use Rattle.std.specs.Prelude.{if◌then◌else◌}
use mathlib.Core.Path.{◌≡◌, refl, sym, ap, ◌∙◌}
use Prim.Native.Nat.{ℕ, suc, ◌+◌, ◌-◌, ◌≤◌, ◌<◌}
use native.Mathlib.Omega.{arith}
use native.Mathlib.Numerals.{add-one}
use native.Mathlib.Nat.{zero-add}
use native.Mathlib.Decide.{dec_lt}
use mathlib.Core.Bool.{Bool, true, false}
use mathlib.Core.List.{List, [], ◌∷◌, ◌++◌, append-nil, append_assoc}
use lib.ListN.{length, set, take, drop, length-set}
use lib.Seq.{sets, sets-eq, take-suc-set, append_snoc}
use lib.Dec.{ltb}
use borrow.Author.Tests.{lt-ltb, le-ltb}
use borrow.Rule.Slice.PartMut.{put_mid, Post-is}
use Rattle.model.specs.Basics.{in_front}
use Rattle.text.specs.Pages.{Page, page, put, write}

-- one list behind the other is written as one
pub write_append : (xs ys : List ℕ) (p : Page) → write (xs ++ ys) p ≡ write ys (write xs p)
unfolding write
write_append [] ys p = refl
write_append (x ∷ xs) ys p = write_append xs ys (put x p)

-- a first number within the page, and one past its end
pub write_in : (x : ℕ) (xs bs : List ℕ) (at : ℕ) → at < length bs → write (x ∷ xs) (page bs at) ≡ write xs (page (set bs at x) (at + 1))
unfolding write put
write_in x xs bs at h = rw (lt-ltb at (length bs) h)

pub write_past : (x : ℕ) (xs bs : List ℕ) (at : ℕ) → length bs ≤ at → write (x ∷ xs) (page bs at) ≡ write xs (page bs at)
unfolding write put
write_past x xs bs at h = rw (le-ltb at (length bs) h)

-- two texts, one after the other
pub write_two : (xs ys : List ℕ) (p q r : Page) → q ≡ write xs p → r ≡ write ys q → r ≡ write (xs ++ ys) p
write_two xs ys p q r e f = rw (write_append xs ys p, ← e) f

-- A text that fits is written whole, behind what stood before the position.
pub record Written (bs xs : List ℕ) (at : ℕ) (q : Page) : Type 0 where
  pub next : q.at ≡ at + length xs
  pub front : take q.at q.slice ≡ take at bs ++ xs
  pub long : length q.slice ≡ length bs

-- every text that fits is written whole
pub write_fits : (xs bs : List ℕ) (at : ℕ) → at + length xs ≤ length bs → Written bs xs at (write xs (page bs at))
unfolding write put
write_fits [] bs at l = record { next = omega arith; front = sym (append-nil (take at bs)); long = refl }
write_fits (x ∷ xs) bs at l =
    let w = write_fits xs (set bs at x) (at + 1) (omega (arith, length-set bs at x)) in
    let h : at < length bs = omega arith in
    let s : take (at + 1) (set bs at x) ≡ take at bs ++ (x ∷ []) = rw add-one (take-suc-set bs at x h) in
    rw (lt-ltb at (length bs) h) (record {
      next = omega (arith, w.next);
      front = w.front ∙ rw s (append_snoc (take at bs) x xs);
      long = w.long ∙ length-set bs at x;
    })

-- a byte moves the position by one at most
put_at_lem : (x : ℕ) (p : Page) → (put x p).at ≤ p.at + 1
unfolding put
put_at_lem x p = go (ltb p.at (length p.slice))
  where
    go : (b : Bool) → (if b then page (set p.slice p.at x) (p.at + 1) else p).at ≤ p.at + 1
    go true = omega arith
    go false = omega arith

-- the position moves on by no more than the text's length
pub write_at : (xs : List ℕ) (p : Page) → (write xs p).at ≤ p.at + length xs
unfolding write
write_at [] p = omega arith
write_at (x ∷ xs) p = omega (arith, write_at xs (put x p), put_at_lem x p)

at_of : {p q : Page} → p ≡ q → p.at ≡ q.at
at_of e = ap (λ (p : Page). p.at) e

stays : (xs bs : List ℕ) (at : ℕ) → length bs ≤ at → (write xs (page bs at)).at ≡ at
unfolding write
stays [] bs at h = refl
stays (x ∷ xs) bs at h = at_of (write_past x xs bs at h) ∙ stays xs bs at h

-- a text that ends before the end of the page was written whole
pub write_room : (xs bs : List ℕ) (at : ℕ) → at ≤ length bs → (write xs (page bs at)).at < length bs → at + length xs ≤ length bs
write_room [] bs at h l = omega arith
write_room (x ∷ xs) bs at h l = go (dec_lt at (length bs)) (λ k m. write_room xs (set bs at x) (at + 1) k m)
  where
    n : length (set bs at x) ≡ length bs
    n = length-set bs at x

    go : Dec (at < length bs)
        → (at + 1 ≤ length (set bs at x) → (write xs (page (set bs at x) (at + 1))).at < length (set bs at x) → at + 1 + length xs ≤ length (set bs at x))
        → at + suc (length xs) ≤ length bs
    go (yes k) ih = omega (arith, n, ih (omega (arith, n)) (omega (arith, n, l, at_of (write_in x xs bs at k))))
    go (no k) ih = absurd (omega (arith, l, stays (x ∷ xs) bs at (omega arith)))

-- numbers that fit stand in the slice from the position on ..
write_sets : (xs bs : List ℕ) (at : ℕ) → at + length xs ≤ length bs → (write xs (page bs at)).slice ≡ sets bs at xs
unfolding write
write_sets [] bs at h = refl
write_sets (x ∷ xs) bs at h =
    let rest : (write xs (page (set bs at x) (at + 1))).slice ≡ sets (set bs at x) (at + 1) xs = write_sets xs (set bs at x) (at + 1) (omega (arith, length-set bs at x)) in
    ap (λ (p : Page). p.slice) (write_in x xs bs at (omega arith)) ∙ rest ∙ rw add-one

-- .. and, written from 0 on, in front, with what the slice had behind them
pub write_front : (xs bs ys : List ℕ) (at : ℕ) → length xs ≤ length bs → page ys at ≡ write xs (page bs 0) → ys ≡ in_front xs bs
unfolding in_front
write_front xs bs ys at h e =
    ap (λ (p : Page). p.slice) e ∙ write_sets xs bs 0 (omega arith) ∙ sets-eq xs bs 0 (omega arith) ∙ rw zero-add

-- .. or copied into the part that it fills
pub write_placed : (xs bs : List ℕ) (at e : ℕ) → e ≡ at + length xs → e ≤ length bs → page (put_mid at (e - at) bs xs) e ≡ write xs (page bs at)
write_placed xs bs at e g h =
    let fits : at + length xs ≤ length bs = omega (arith, g, h) in
    let behind : drop (at + length xs) bs ≡ drop e bs = rw (← g) refl in
    let same : (write xs (page bs at)).slice ≡ put_mid at (e - at) bs xs =
    write_sets xs bs at fits ∙ sets-eq xs bs at fits ∙ append_assoc (take at bs) xs (drop (at + length xs) bs)
    ∙ ap (λ (r : List ℕ). take at bs ++ (xs ++ r)) (behind ∙ sym (Post-is at e bs (omega (arith, g)))) in
    let moved : (write xs (page bs at)).at ≡ e = (write_fits xs bs at fits).next ∙ sym g in
    sym (λ i. page (same i) (moved i))

-- all of a text that fits stands at the front
pub write_held : (xs bs : List ℕ) (q : Page) → q ≡ write xs (page bs 0) → length xs ≤ length bs → (q.at ≤ length q.slice) × (take q.at q.slice ≡ xs)
write_held xs bs q e h =
    let w = write_fits xs bs 0 (omega arith) in
    rw e (omega (arith, w.next, w.long), w.front)
