-- The windows of one week, taken in order, give its first minute. Before that, laws for the loop that takes them.
use mathlib.Core.Path.{◌≡◌, refl, sym, ap, ◌∙◌}
use Prim.Native.Nat.{ℕ, ◌+◌, ◌≤◌, ◌<◌, max}
use native.Mathlib.Omega.{arith}
use native.Mathlib.Decide.{dec_lt}
use mathlib.Core.Bool.{Bool, true, false}
use mathlib.Core.List.{List, [], ◌∷◌, ◌++◌}
use mathlib.Core.Option.{none, some, some-injective, some-ne-none}
use lib.ListN.{length, get_or}
use lib.Dec.{leb}
use borrow.Author.Tests.{le-leb, lt-leb, leb-true, leb-false}
use Rattle.planner.specs.Numbers.{week}
use Rattle.planner.specs.Windows.{Window, windows_in, ordered}
use Rattle.planner.specs.Planning.{inside, inside_one}
use Rattle.planner.specs.Weeks.{first_in}
use Rattle.planner.proofs.WindowLaws.{none_left, one_number_left, window_left, Follows, ordered_head, ordered_tail}

-- ---- the ways out of the loop

-- no window is left, or a last number alone, in which nothing fits
pub first_end : (n from : ℕ) (xs : List ℕ) → length xs ≡ 0 → none ≡ first_in n from (windows_in xs)
unfolding first_in
first_end n from xs h = rw (none_left xs h)

pub first_cut : (n from : ℕ) (xs : List ℕ) → 1 ≤ n → 0 < length xs → length xs < 2 → none ≡ first_in n from (windows_in xs)
unfolding first_in
first_cut n from xs l h e = rw (one_number_left xs h e, lt-leb (max (get_or xs 0 0) from + n) 0 (omega arith), first_in)

module _ (n from : ℕ) (xs chunk rest : List ℕ) (b : ℕ) (h : xs ≡ chunk ++ rest) (l : length chunk ≡ 2) (e : b ≡ max (get_or chunk 0 0) from) where
  -- the transit fits in the next window, or is tried in those behind it
  pub first_here : true ≡ leb (b + n) (get_or chunk 1 0) → some b ≡ first_in n from (windows_in xs)
  unfolding first_in
  first_here t = rw (window_left xs chunk rest h l, ← e, ← t, first_in) (ap some e)

  pub first_next : false ≡ leb (b + n) (get_or chunk 1 0) → first_in n from (windows_in xs) ≡ first_in n from (windows_in rest)
  unfolding first_in
  first_next t = rw (window_left xs chunk rest h l, ← e, ← t, first_in)

-- ---- one window, and one step of first_in

module _ (n from : ℕ) (w : Window) (ws : List Window) where
  first_now : leb (max w.start from + n) w.end ≡ true → first_in n from (w ∷ ws) ≡ some (max w.start from)
  unfolding first_in
  first_now e = rw (e, first_in)

  first_on : leb (max w.start from + n) w.end ≡ false → first_in n from (w ∷ ws) ≡ first_in n from ws
  unfolding first_in
  first_on e = rw (e, first_in)

module _ (base n : ℕ) where
  -- a transit that begins and ends within a window lies inside it
  pub inside_yes : (w : Window) (m : ℕ) → base + w.start ≤ m → m + n ≤ base + w.end → inside base n m w ≡ true
  unfolding inside
  inside_yes w m a b = rw (le-leb (base + w.start) m a, le-leb (m + n) (base + w.end) b)

  inside_early : (w : Window) (m : ℕ) → m < base + w.start → inside base n m w ≡ false
  unfolding inside
  inside_early w m a = rw (lt-leb (base + w.start) m a)

  inside_late : (w : Window) (m : ℕ) → base + w.start ≤ m → base + w.end < m + n → inside base n m w ≡ false
  unfolding inside
  inside_late w m a b = rw (le-leb (base + w.start) m a, lt-leb (m + n) (base + w.end) b)

  one_here : (w : Window) (ws : List Window) (m : ℕ) → inside base n m w ≡ true → inside_one base n m (w ∷ ws) ≡ true
  unfolding inside_one
  one_here w ws m e = rw e

  one_there : (w : Window) (ws : List Window) (m : ℕ) → inside base n m w ≡ false → inside_one base n m (w ∷ ws) ≡ inside_one base n m ws
  unfolding inside_one
  one_there w ws m e = rw e

  -- a minute before the windows is in none
  pub none_before : (p : ℕ) (ws : List Window) (m : ℕ) → ordered p ws ≡ true → m < base + p → inside_one base n m ws ≡ false
  unfolding inside_one
  none_before p [] m o h = refl
  none_before p (w ∷ ws) m o h =
      let f : Follows p w = ordered_head p w ws o in
      one_there w ws m (inside_early w m (omega arith)) ∙ none_before w.end ws m (ordered_tail p w ws o) (omega arith)

  -- a window that has too little left has it from no later minute either
  too_little : (from : ℕ) (w : Window) (j : ℕ) → w.end < max w.start from + n → base + from ≤ j → inside base n j w ≡ false
  too_little from w j l a = go (dec_lt j (base + w.start))
    where
      go : Dec (j < base + w.start) → inside base n j w ≡ false
      go (yes h) = inside_early w j h
      go (no h) = inside_late w j (omega arith) (omega arith)

  -- m is the first minute of the week at or after `from`
  pub record FirstOfWeek (from : ℕ) (ws : List Window) (m : ℕ) : Type 0 where
    pub not_before : from ≤ m
    pub in_week : m + n ≤ week
    pub lies : inside_one base n (base + m) ws ≡ true
    pub least : (j : ℕ) → base + from ≤ j → j < base + m → inside_one base n j ws ≡ false

  -- a minute that is found is the first
  pub some_first : (p from : ℕ) (ws : List Window) (m : ℕ) → ordered p ws ≡ true → first_in n from ws ≡ some m → FirstOfWeek from ws m
  unfolding first_in
  some_first p from [] m o e = absurd (some-ne-none m (sym e))
  some_first p from (w ∷ ws) m o e =
      go (ordered_head p w ws o) (ordered_tail p w ws o) (leb (max w.start from + n) w.end) refl (λ h. some_first w.end from ws m (ordered_tail p w ws o) h)
    where
      go : Follows p w → ordered w.end ws ≡ true → (t : Bool) → leb (max w.start from + n) w.end ≡ t
          → (first_in n from ws ≡ some m → FirstOfWeek from ws m) → FirstOfWeek from (w ∷ ws) m
      go f o' true t ih =
          let is : max w.start from ≡ m = some-injective _ _ (sym (first_now n from w ws t) ∙ e) in
          let l : max w.start from + n ≤ w.end = leb-true _ _ t in
          record {
            not_before = omega arith;
            in_week = omega arith;
            lies = one_here w ws (base + m) (inside_yes w (base + m) (omega arith) (omega arith));
            least = λ j a b. one_there w ws j (inside_early w j (omega arith)) ∙ none_before w.end ws j o' (omega arith);
          }
      go f o' false t ih =
          let r : FirstOfWeek from ws m = ih (sym (first_on n from w ws t) ∙ e) in
          let l : w.end < max w.start from + n = leb-false _ _ t in
          record {
            not_before = r.not_before;
            in_week = r.in_week;
            lies = one_there w ws (base + m) (too_little from w (base + m) l (omega (arith, r.not_before))) ∙ r.lies;
            least = λ j a b. one_there w ws j (too_little from w j l a) ∙ r.least j a b;
          }

  -- where none is found, no window has the transit
  pub none_first : (from : ℕ) (ws : List Window) → first_in n from ws ≡ none → (j : ℕ) → base + from ≤ j → inside_one base n j ws ≡ false
  unfolding inside_one
  none_first from [] e j a = refl
  none_first from (w ∷ ws) e j a = go (leb (max w.start from + n) w.end) refl (λ h. none_first from ws h j a)
    where
      go : (t : Bool) → leb (max w.start from + n) w.end ≡ t → (first_in n from ws ≡ none → inside_one base n j ws ≡ false) → inside_one base n j (w ∷ ws) ≡ false
      go true t ih = absurd (some-ne-none _ (sym (first_now n from w ws t) ∙ e))
      go false t ih = one_there w ws j (too_little from w j (leb-false _ _ t) a) ∙ ih (sym (first_on n from w ws t) ∙ e)
