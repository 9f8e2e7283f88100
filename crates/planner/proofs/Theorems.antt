-- The theorem on the planner's answer: the first minute from which the whole transit lies inside one window, and "none" exactly if no
-- window is that long.
use mathlib.Core.Path.{◌≡◌, refl, sym, ap, ◌∙◌, subst}
use mathlib.Core.Logic.{◌⊎◌, inl, inr}
use Prim.Native.Nat.{ℕ, ◌+◌, ◌-◌, ◌*◌, ◌≤◌, ◌<◌}
use native.Mathlib.Omega.{arith}
use native.Mathlib.Decide.{dec_lt}
use mathlib.Core.Bool.{Bool, true, false, ◌&&◌, ◌||◌}
use mathlib.Core.List.Memᴰ.{cases_cons as mem-cases}
use mathlib.Core.List.Memᴰ.{head as at_head}
use mathlib.Core.List.Memᴰ.{not-nil as mem-nil}
use mathlib.Core.List.Memᴰ.{tail as in_Tail}
use mathlib.Core.List.{List, [], ◌∷◌, Memᴰ as Mem}
use mathlib.Core.Option.{Option, none, some}
use lib.Dec.{leb}
use borrow.Author.Tests.{leb-true, ne_eqb}
use Rattle.planner.specs.Numbers.{week}
use Rattle.planner.specs.Windows.{Window, ordered}
use Rattle.planner.specs.Planning.{Reply, at, never, reply_of, transit, inside, inside_one, possible_at, earliest, out_of_bounds, plan}
use Rattle.planner.specs.Claims.{LiesInside, LiesInOne, NoneLong, IsFirst, PlanIsRight}
use Rattle.planner.proofs.Search.{First, first_found, first_none, none_found}
use Rattle.planner.proofs.WindowLaws.{Follows, ordered_head, ordered_tail}
use Rattle.planner.proofs.WeekLaws.{inside_yes}
use Rattle.planner.proofs.PlanLaws.{bounds}
use Rattle.planner.proofs.Transit.{transit_some, transit_enough, transit_least}

-- ---- the test says what it should

module _ (base n m : ℕ) where
  -- the first and the last minute, of at least one
  first_inside : (w : Window) → 1 ≤ n → LiesInside base n m w → base + w.start ≤ m
  first_inside w l i = (i m (omega arith) (omega arith)).0

  last_inside : (w : Window) → 1 ≤ n → LiesInside base n m w → m + n ≤ base + w.end
  last_inside w l i = let e = (i (m + n - 1) (omega arith) (omega arith)).1 in omega arith

  inside_lies : (w : Window) → inside base n m w ≡ true → LiesInside base n m w
  unfolding inside
  inside_lies w e = go (leb (base + w.start) m) refl (leb (m + n) (base + w.end)) refl e
    where
      go : (s : Bool) → leb (base + w.start) m ≡ s → (t : Bool) → leb (m + n) (base + w.end) ≡ t → (s && t) ≡ true → LiesInside base n m w
      go true p true q h =
          let a : base + w.start ≤ m = leb-true _ _ p in
          let b : m + n ≤ base + w.end = leb-true _ _ q in
          λ j c d. (omega arith, omega arith)
      go true p false q h = absurd (let z : ◌≡◌ {A = ℕ} 0 1 = cc in omega arith)
      go false p t q h = absurd (let z : ◌≡◌ {A = ℕ} 0 1 = cc in omega arith)

  one_lies : (ws : List Window) → inside_one base n m ws ≡ true → (w : Window) × (Mem w ws × LiesInside base n m w)
  unfolding inside_one
  one_lies [] e = absurd (let z : ◌≡◌ {A = ℕ} 0 1 = cc in omega arith)
  one_lies (w ∷ ws) e = go (inside base n m w) refl e (λ h. one_lies ws h)
    where
      go : (t : Bool) → inside base n m w ≡ t → (t || inside_one base n m ws) ≡ true
          → (inside_one base n m ws ≡ true → (v : Window) × (Mem v ws × LiesInside base n m v)) → (v : Window) × (Mem v (w ∷ ws) × LiesInside base n m v)
      go true p h ih = (w, (at_head refl, inside_lies w p))
      go false p h ih = let r = ih h in (r.0, (in_Tail r.1.0, r.1.1))

  lies_one : (ws : List Window) (w : Window) → Mem w ws → 1 ≤ n → LiesInside base n m w → inside_one base n m ws ≡ true
  unfolding inside_one
  lies_one [] w i k l = absurd (mem-nil i)
  lies_one (v ∷ ws) w i k l = go (mem-cases i) (inside base n m v) refl (λ h. lies_one ws w h k l)
    where
      go : (w ≡ v) ⊎ Mem w ws → (t : Bool) → inside base n m v ≡ t → (Mem w ws → inside_one base n m ws ≡ true) → (t || inside_one base n m ws) ≡ true
      go d true p ih = refl
      go (inl q) false p ih =
          let y : inside base n m v ≡ true = ap (λ (u : Window). inside base n m u) (sym q) ∙ inside_yes base n w m (first_inside w k l) (last_inside w k l) in
          absurd (let z : ◌≡◌ {A = ℕ} 0 1 = cc in omega arith)
      go (inr i') false p ih = ih i'

module _ (ws : List Window) (n m : ℕ) (k : 1 ≤ n) where
  possible_lies : possible_at ws n m ≡ true → LiesInOne ws n m
  unfolding possible_at
  possible_lies e = go (inside_one 0 n m ws) refl e
    where
      go : (t : Bool) → inside_one 0 n m ws ≡ t → (t || inside_one week n m ws) ≡ true → LiesInOne ws n m
      go true p h = let r = one_lies 0 n m ws p in (r.0, (r.1.0, inl r.1.1))
      go false p h = let r = one_lies week n m ws h in (r.0, (r.1.0, inr r.1.1))

  lies_possible : LiesInOne ws n m → possible_at ws n m ≡ true
  unfolding possible_at
  lies_possible l = go l.1.1 (inside_one 0 n m ws) refl
    where
      go : LiesInside 0 n m l.0 ⊎ LiesInside week n m l.0 → (t : Bool) → inside_one 0 n m ws ≡ t → (t || inside_one week n m ws) ≡ true
      go d true p = refl
      go (inl d) false p =
          let y : inside_one 0 n m ws ≡ true = lies_one 0 n m ws l.0 l.1.0 k d in
          absurd (let z : ◌≡◌ {A = ℕ} 0 1 = cc in omega arith)
      go (inr d) false p = lies_one week n m ws l.0 l.1.0 k d

  not_possible : possible_at ws n m ≡ false → LiesInOne ws n m → ⊥
  not_possible e l =
      let y : possible_at ws n m ≡ true = lies_possible l in
      let z : ◌≡◌ {A = ℕ} 0 1 = cc in omega arith

-- ---- the first minute

ends_in_week : (p : ℕ) (ws : List Window) (w : Window) → ordered p ws ≡ true → Mem w ws → w.end ≤ week
ends_in_week p [] w o i = absurd (mem-nil i)
ends_in_week p (v ∷ ws) w o i = go (mem-cases i) (λ h. ends_in_week v.end ws w (ordered_tail p v ws o) h)
  where
    go : (w ≡ v) ⊎ Mem w ws → (Mem w ws → w.end ≤ week) → w.end ≤ week
    go (inl q) ih =
        let f : Follows p v = ordered_head p v ws o in
        subst (λ (u : Window). u.end ≤ week) (sym q) f.within_week
    go (inr h) ih = ih h

module _ (ws : List Window) (n minute : ℕ) (o : ordered 0 ws ≡ true) (l : 1 ≤ n) (b : minute < week) where
  found_first : (m : ℕ) → earliest ws n minute ≡ some m → IsFirst ws n minute m
  unfolding earliest
  found_first m e =
      let f : First (possible_at ws n) minute (2 * week - minute) m = first_found (possible_at ws n) (2 * week - minute) minute m e in
      record {
        from = f.from;
        in_two_weeks = omega (arith, f.below);
        lies = possible_lies ws n m l f.passes;
        least = λ j a h. not_possible ws n j l (f.least j a h);
      }

  -- next week every window is whole
  none_long : earliest ws n minute ≡ none → NoneLong ws n
  unfolding earliest
  none_long e w i = go (dec_lt w.end (w.start + n))
    where
      go : Dec (w.end < w.start + n) → w.end < w.start + n
      go (yes h) = h
      go (no h) =
          let k : w.end ≤ week = ends_in_week 0 ws w o i in
          let j : possible_at ws n (week + w.start) ≡ false = none_found (possible_at ws n) (2 * week - minute) minute e (week + w.start) (omega arith) (omega arith) in
          absurd (not_possible ws n (week + w.start) l j (w, (i, inr (λ u c d. (omega arith, omega arith)))))

  long_none : NoneLong ws n → earliest ws n minute ≡ none
  unfolding earliest
  long_none s = first_none (possible_at ws n) (2 * week - minute) minute (λ j a h. go j (possible_at ws n j) refl)
    where
      short : (j : ℕ) (r : LiesInOne ws n j) → LiesInside 0 n j r.0 ⊎ LiesInside week n j r.0 → ⊥
      short j r (inl d) = let t = s r.0 r.1.0 in omega (arith, first_inside 0 n j r.0 l d, last_inside 0 n j r.0 l d)
      short j r (inr d) = let t = s r.0 r.1.0 in omega (arith, first_inside week n j r.0 l d, last_inside week n j r.0 l d)

      go : (j : ℕ) (t : Bool) → possible_at ws n j ≡ t → t ≡ false
      go j true p = let r = possible_lies ws n j l p in absurd (short j r r.1.1)
      go j false p = refl

-- ---- the answer

at_some : (f : Option ℕ) (m : ℕ) → reply_of f ≡ at m → f ≡ some m
at_some (some k) m e = cc
at_some none m e = absurd (let z : ◌≡◌ {A = ℕ} 0 1 = cc in omega arith)

never_none : (f : Option ℕ) → reply_of f ≡ never → f ≡ none
never_none (some k) e = absurd (let z : ◌≡◌ {A = ℕ} 0 1 = cc in omega arith)
never_none none e = refl

one_of : (f : Option ℕ) (r : Reply) → r ≡ reply_of f → ((m : ℕ) × (r ≡ at m)) ⊎ (r ≡ never)
one_of (some k) r e = inl (k, e)
one_of none r e = inr e

module _ (volume flow minute : ℕ) (ws : List Window) (g : out_of_bounds flow minute ws ≡ false) (o : ordered 0 ws ≡ true) (v : 1 ≤ volume) where
  plan_is : plan volume flow minute ws ≡ reply_of (earliest ws (transit volume flow) minute)
  unfolding plan
  plan_is =
      let n : volume ≡ 0 → ⊥ = λ q. omega arith in
      rw (g, o, ne_eqb _ _ n)

  n : ℕ
  n = transit volume flow

  this : minute < week
  this = (bounds flow minute ws g).this_week

  flows : 1 ≤ flow
  flows = (bounds flow minute ws g).flow_least

  some_minutes : 1 ≤ transit volume flow
  some_minutes = transit_some volume flow v flows

  -- the answer to a known volume is right where no refusal holds
  pub right : PlanIsRight volume flow minute ws
  unfolding n
  right =
      record {
        rounded = record { enough = transit_enough volume flow v flows; least = transit_least volume flow v flows };
        first = λ m e. found_first ws n minute o some_minutes this m (at_some (earliest ws n minute) m (sym plan_is ∙ e));
        never_if = λ e. none_long ws n minute o some_minutes this (never_none (earliest ws n minute) (sym plan_is ∙ e));
        never_only_if = λ s. plan_is ∙ ap reply_of (long_none ws n minute o some_minutes this s);
        no_other = one_of (earliest ws n minute) (plan volume flow minute ws) plan_is;
      }
