-- Document 02, S-6 and S-11, of the calls, whatever is lent to the opening: a sheet that was opened in a house is fetched line by line as the
-- house stood then, with landings there and any calls for other houses between; after a grow, as the register that its counts name in the new
-- one; and it is ended exactly while its count of removals is not that of the house. Proved in Fetched.
use mathlib.Core.Path.{◌≡◌}
use mathlib.Core.Logic.{◌≢◌}
use Prim.Native.Nat.{ℕ}
use mathlib.Core.Bool.{true, false}
use mathlib.Core.List.{List, [], ◌∷◌, ◌++◌}
use mathlib.Core.Option.{some}
use lib.ListN.{length, drop}
use Rattle.model.specs.Register.{Register}
use Rattle.model.specs.Queries.{OpenSheet, refuses, sheet}
use Rattle.model.specs.Opened.{fetch, is_beyond, opening_of}
use Rattle.model.specs.Tables.{Tables, fits, held}
use Rattle.model.specs.Notions.{NamedIn, lines_then_done}
use Rattle.nursery.specs.Nursery.{Nursery, removals_in, stored_in}
use Rattle.nursery.specs.Calls.{fetches, in_house}
use Rattle.nursery.specs.Series.{Made, Site, after, after_call, makes, register_at, removals_at, series}
use Rattle.nursery.specs.Notions.{Fetch, fetched_by, site_of}
use Rattle.nursery.proofs.Clearing.{Grows, NoneClears, Removes}
use Rattle.nursery.proofs.Onwards.{NoneGrows}

-- each of these fetches is lent scratch of the right sizes, and of the calls before it none clears house h: no grow of it and no removal from
-- it, but refused ones
abbrev pub NoneBetween : ℕ → List Fetch → Site → Type 0
NoneBetween h [] s = Unit {0}
NoneBetween h (f ∷ fs) s = (fits f.scratch ≡ true) × (NoneClears h f.before s × NoneBetween h fs (after f.before s))

-- ---- the claims

-- What fetches in house h answer, from any sheet and after any calls, where nursery n holds the houses s.
pub record Sheets (h : ℕ) (n : Nursery) (s : Site) : Type 0 where
  -- after any calls, grows and removals among them, a fetch answers for the house as they leave it
  pub fetched_now : (ms : List Made) (scratch : Tables) → fits scratch ≡ true → (w : OpenSheet)
      → (makes (record { call = in_house h (fetches w); scratch = scratch }) (series ms n)).reply ≡ fetch (removals_at h (after ms s)) (register_at h (after ms s)) w
  -- "after a grow they are those that the counts name in the new one": from its place on, line by line, and then it is done; as long as the
  -- counts of removals are equal, or if they are equal again
  pub named_lines : (ms : List Made) (w : OpenSheet) → w.removals ≡ removals_at h (after ms s) → is_beyond (register_at h (after ms s)) w ≡ false
      → (d : NamedIn (register_at h (after ms s)) w) (fs : List Fetch) → NoneBetween h fs (after ms s)
      → fetched_by h fs (series ms n) w ≡ lines_then_done (length fs) (drop w.place (sheet d.register)) w
  -- "An open sheet carries the count and is ended when it differs": 39 exactly then
  pub ended : (ms : List Made) (scratch : Tables) → fits scratch ≡ true → (w : OpenSheet) → w.removals ≢ removals_at h (after ms s)
      → (makes (record { call = in_house h (fetches w); scratch = scratch }) (series ms n)).reply ≡ refuses 39
  pub only_ended : (ms : List Made) (scratch : Tables) → fits scratch ≡ true → (w : OpenSheet)
      → (makes (record { call = in_house h (fetches w); scratch = scratch }) (series ms n)).reply ≡ refuses 39 → w.removals ≢ removals_at h (after ms s)
  -- a sheet of now, after a removal that is not refused, as long as the house is not grown again
  pub ended_after : (ms : List Made) (m : Made) (ks : List Made) → NoneGrows h ms s → Removes h m (after ms s) → NoneGrows h ks (after_call m (after ms s))
      → (scratch : Tables) → fits scratch ≡ true → (w : OpenSheet) → w.removals ≡ removals_at h s
      → (makes (record { call = in_house h (fetches w); scratch = scratch }) (series (ms ++ (m ∷ ks)) n)).reply ≡ refuses 39
  -- ", after a grow too": of a sheet whose count is not 0
  pub ended_by_grow : (ms : List Made) (m : Made) → Grows h m (after ms s) → (scratch : Tables) → fits scratch ≡ true → (w : OpenSheet) → w.removals ≢ 0
      → (makes (record { call = in_house h (fetches w); scratch = scratch }) (series (ms ++ (m ∷ [])) n)).reply ≡ refuses 39

-- "Its lines are those of the register as it stood at the opening .., however much has been landed since": the register that house h held, and
-- what any fetches give from its sheet, with landings there by lists and commits, questions and refused calls, and any calls for other houses
-- between. And what they answer after any other calls.
pub record PrintsOpened (h : ℕ) (n : Nursery) (w : OpenSheet) : Type 0 where
  pub register : Register
  pub held_is : held (stored_in h n) ≡ some register
  pub opening_is : w ≡ opening_of (removals_in h n) register
  pub line_by_line : (fs : List Fetch) → NoneBetween h fs (site_of n) → fetched_by h fs n w ≡ lines_then_done (length fs) (sheet register) w
  pub afterwards : Sheets h n (site_of n)
