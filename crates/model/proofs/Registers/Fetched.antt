-- Document 02, S-6: what a fetch from an opened sheet answers.
use Rattle.std.specs.Prelude.{if◌then◌else◌}
use mathlib.Core.Path.{◌≡◌, refl, sym, ap, ◌∙◌}
use mathlib.Core.Logic.{◌≢◌}
use Prim.Native.Nat.{ℕ, zero, suc, ◌+◌, ◌≤◌, ◌<◌}
use native.Mathlib.Omega.{arith}
use native.Mathlib.Decide.{dec_lt, ℕ_discrete}
use native.Mathlib.Nat.{not-suc-le-zero}
use mathlib.Core.Bool.{Bool, true, false}
use mathlib.Core.List.{List, [], ◌∷◌}
use mathlib.Core.Option.{Option, none, some}
use lib.ListN.{length, get_or}
use lib.Dec.{eqb}
use borrow.Author.Tests.{eq-eqb, ne_eqb}
use Rattle.model.specs.Graph.{Edge, name_of}
use Rattle.model.specs.Register.{Register}
use Rattle.model.specs.Queries.{OpenSheet, Reply, fetched, finished, refuses, rows_of}
use Rattle.model.specs.Opened.{fetch, fetch_line, is_beyond, is_ended, line_at, moved_on, opened_lines}
use Rattle.model.proofs.Basics.Booleans.{if_either}

-- ---- the line at a place

pub line_some : (n : ℕ) (rows : List (List ℕ)) → n < length rows → line_at n rows ≡ some (get_or rows n [])
unfolding line_at
line_some n [] h = absurd (not-suc-le-zero h)
line_some zero (ns ∷ rows) h = refl
line_some (suc n) (ns ∷ rows) h = line_some n rows (omega arith)

-- past the last of the rows there is no line
pub line_none : (n : ℕ) (rows : List (List ℕ)) → length rows ≤ n → line_at n rows ≡ none
unfolding line_at
line_none n [] h = refl
line_none zero (ns ∷ rows) h = absurd (not-suc-le-zero h)
line_none (suc n) (ns ∷ rows) h = line_none n rows (omega arith)

-- there are at most as many lines as edges
pub rows_few : (es : List Edge) (ds : List ℕ) → length (rows_of es ds) ≤ length ds
unfolding rows_of
rows_few es [] = omega arith
rows_few es (d ∷ ds) = go (eqb (name_of es d) d) refl (rows_few es ds)
  where
    go : (b : Bool) → eqb (name_of es d) d ≡ b → length (rows_of es ds) ≤ length ds → length (rows_of es (d ∷ ds)) ≤ length (d ∷ ds)
    go true e i = rw (e, rows_of) (omega arith)
    go false e i = rw (e, rows_of) (omega arith)

-- ---- a fetch

-- "moves on by one", whatever its place
pub moved_on_lem : (s : OpenSheet) → (moved_on s).place ≡ s.place + 1
unfolding moved_on
moved_on_lem s = refl

not_33 : (s : OpenSheet) (o : Option (List ℕ)) → fetch_line s o ≢ refuses 33
unfolding fetch_line
not_33 s (some ns) e = let z : ◌≡◌ {A = ℕ} 0 1 = cc in omega arith
not_33 s none e = let z : ◌≡◌ {A = ℕ} 0 1 = cc in omega arith

refusal_same : (x y : ℕ) → refuses x ≡ refuses y → x ≡ y
refusal_same x y e = cc

not_39 : (r : Register) (s : OpenSheet) → (if is_beyond r s then refuses 33 else fetch_line s (line_at s.place (opened_lines r s))) ≢ refuses 39
unfolding fetch_line
not_39 r s =
    if_either (λ (a : Reply). a ≢ refuses 39) (is_beyond r s) (refuses 33) _
    (λ e. omega (arith, refusal_same 33 39 e)) (go (line_at s.place (opened_lines r s)))
  where
    go : (o : Option (List ℕ)) → fetch_line s o ≢ refuses 39
    go (some ns) e = let z : ◌≡◌ {A = ℕ} 0 1 = cc in omega arith
    go none e = let z : ◌≡◌ {A = ℕ} 0 1 = cc in omega arith

-- another count of removals ends a sheet, and nothing else does
module _ (removals : ℕ) (r : Register) (s : OpenSheet) where
  -- a sheet of another count is refused with 39
  pub fetch_ended : s.removals ≢ removals → fetch removals r s ≡ refuses 39
  unfolding fetch is_ended
  fetch_ended d = rw (ne_eqb s.removals removals d)

  not_ended : s.removals ≡ removals → is_ended removals s ≡ false
  unfolding is_ended
  not_ended e = rw (eq-eqb s.removals removals e)

  -- and 39 tells that its count is another
  pub only_ended : fetch removals r s ≡ refuses 39 → s.removals ≢ removals
  unfolding fetch
  only_ended e d = not_39 r s (rw (not_ended d) at e)

module _ (removals : ℕ) (r : Register) (s : OpenSheet) (c : s.removals ≡ removals) where
  -- a sheet that is beyond the register is refused with 33
  pub fetch_beyond : is_beyond r s ≡ true → fetch removals r s ≡ refuses 33
  unfolding fetch
  fetch_beyond h = rw (not_ended removals r s c, h)

  -- any other is answered by the line at its place
  pub fetch_within : is_beyond r s ≡ false → fetch removals r s ≡ fetch_line s (line_at s.place (opened_lines r s))
  unfolding fetch
  fetch_within h = rw (not_ended removals r s c, h)

  within_beyond : fetch removals r s ≡ refuses 33 → is_beyond r s ≡ true
  within_beyond e = go (is_beyond r s) refl
    where
      go : (b : Bool) → is_beyond r s ≡ b → is_beyond r s ≡ true
      go true h = h
      go false h = absurd (not_33 s _ (sym (fetch_within h) ∙ e))

  -- a place among the lines: its line, and the sheet moves on; past them the sheet is finished
  pub fetch_line_lem : is_beyond r s ≡ false → s.place < length (opened_lines r s) → fetch removals r s ≡ fetched (get_or (opened_lines r s) s.place []) (moved_on s)
  unfolding fetch_line
  fetch_line_lem h l = fetch_within h ∙ ap (fetch_line s) (line_some s.place (opened_lines r s) l)

  pub fetch_done : is_beyond r s ≡ false → length (opened_lines r s) ≤ s.place → fetch removals r s ≡ finished s
  unfolding fetch_line
  fetch_done h l = fetch_within h ∙ ap (fetch_line s) (line_none s.place (opened_lines r s) l)

  finished_is : (t u : OpenSheet) → finished t ≡ finished u → t ≡ u
  finished_is t u e = cc

  within_done : (s' : OpenSheet) → fetch removals r s ≡ finished s' → (s' ≡ s) × (length (opened_lines r s) ≤ s.place)
  within_done s' e = go (is_beyond r s) refl (dec_lt s.place (length (opened_lines r s)))
    where
      go : (b : Bool) → is_beyond r s ≡ b → Dec (s.place < length (opened_lines r s)) → (s' ≡ s) × (length (opened_lines r s) ≤ s.place)
      go true h d = absurd (let q : refuses 33 ≡ finished s' = sym (fetch_beyond h) ∙ e in let z : ◌≡◌ {A = ℕ} 0 1 = cc in omega arith)
      go false h (yes l) = absurd (let q = sym (fetch_line_lem h l) ∙ e in let z : ◌≡◌ {A = ℕ} 0 1 = cc in omega arith)
      go false h (no l) = (finished_is s' s (sym e ∙ fetch_done h (omega arith)), omega arith)

-- ---- what an answer tells

module _ (removals : ℕ) (r : Register) (s : OpenSheet) where
  -- 33 tells that the count is the same and the sheet beyond the register
  pub only_beyond : fetch removals r s ≡ refuses 33 → (s.removals ≡ removals) × (is_beyond r s ≡ true)
  only_beyond e = go (ℕ_discrete s.removals removals)
    where
      go : Dec (s.removals ≡ removals) → (s.removals ≡ removals) × (is_beyond r s ≡ true)
      go (yes c) = (c, within_beyond removals r s c e)
      go (no d) = absurd (omega (arith, refusal_same 39 33 (sym (fetch_ended removals r s d) ∙ e)))

  -- a sheet is told to be finished only where its count is the same and its place past its lines, and it stays as it was
  pub only_done : (s' : OpenSheet) → fetch removals r s ≡ finished s' → (s.removals ≡ removals) × (s' ≡ s) × (length (opened_lines r s) ≤ s.place)
  only_done s' e = go (ℕ_discrete s.removals removals)
    where
      go : Dec (s.removals ≡ removals) → (s.removals ≡ removals) × (s' ≡ s) × (length (opened_lines r s) ≤ s.place)
      go (yes c) = let w = within_done removals r s c s' e in (c, w.0, w.1)
      go (no d) = absurd (let q : refuses 39 ≡ finished s' = sym (fetch_ended removals r s d) ∙ e in let z : ◌≡◌ {A = ℕ} 0 1 = cc in omega arith)
