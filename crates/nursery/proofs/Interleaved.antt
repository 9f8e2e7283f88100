-- Document 02, S-6 and S-11, of house 2: its sheet is opened at four pipes and fetched while the other two land, with calls for house 1 between;
-- the same sheet after a grow; and ended by a removal, until a grow.
use mathlib.Core.Path.{◌≡◌, refl, sym, ap, ◌∙◌}
use mathlib.Core.Logic.{inl, inr}
use Prim.Native.Nat.{ℕ, ◌<◌}
use native.Mathlib.Omega.{arith}
use mathlib.Core.Bool.{Bool, true, false, not, ◌&&◌, true≢false}
use mathlib.Core.List.{List, [], ◌∷◌}
use lib.ListN.{drop, length, replicate}
use lib.Dec.{eqb}
use borrow.Author.Tests.{eq-eqb, not-true}
use Rattle.model.specs.Format.{list_of}
use Rattle.model.specs.Queries.{OpenSheet, fetched, finished, opened, refuses}
use Rattle.model.specs.Opened.{is_beyond, opened_lines}
use Rattle.model.specs.Tables.{cleared, fits}
use Rattle.model.specs.Calls.{House}
use Rattle.model.specs.Notions.{NamedIn, lines_then_done}
use Rattle.model.specs.Values.{edge, four, loop, other_four, sheet_of}
use Rattle.model.proofs.Basics.Booleans.{and_true}
use Rattle.theory.proofs.Registers.Named.{named}
use Rattle.nursery.specs.Licence.{houses}
use Rattle.nursery.specs.Removal.{Removed, kept_with, remove, removed}
use Rattle.nursery.specs.Nursery.{no_houses}
use Rattle.nursery.specs.Calls.{Call, HouseCall, asks, commits, finds, grows, in_house, lands, opens, removes, sets_shares}
use Rattle.nursery.specs.Series.{Made, Site, admitted, after, after_call, empty_site, house_at, makes, register_at, removals_at, series}
use Rattle.nursery.specs.Notions.{Fetch, fetched_by}
use Rattle.nursery.proofs.Computing.{settling}
use Rattle.nursery.proofs.Computed.{fifth_quote, here, line, made, opened as calling, unfit}
use Rattle.nursery.proofs.State.{holds_empty, sound_empty}
use Rattle.nursery.proofs.Kept.{call_does}
use Rattle.nursery.proofs.Whole.{from_start}
use Rattle.nursery.proofs.Clearing.{Clears, NoneClears}
use Rattle.nursery.proofs.Fetching.{NoneBetween}
use Rattle.nursery.proofs.Fetched.{fetched_settled, fetches_at, sheets_of}

-- ---- whether a call clears a house, as a test

unfoldable takes_out : Removed → Bool
takes_out (removed r cs) = true
takes_out (kept_with x) = false

unfoldable clears_house : HouseCall → House → Bool
clears_house (grows bs) s = true
clears_house (lands bs) s = false
clears_house (commits q) s = false
clears_house (removes d slice) s = takes_out (remove s d (length slice))
clears_house (asks q) s = false

unfoldable clears_in : ℕ → Call → Site → Bool
clears_in h (in_house g c) s = eqb h g && clears_house c (house_at h s)
clears_in h (sets_shares shares) s = false

unfoldable clearing : ℕ → Made → Site → Bool
clearing h m s = admitted m s && clears_in h m.call s

clearing_is : (h : ℕ) (m : Made) (s : Site) → Clears h m s → clearing h m s ≡ true
unfolding clearing clears_in clears_house takes_out
clearing_is h m s (inl g) = rw (g.not_refused, g.call_is, eq-eqb h h refl)
clearing_is h m s (inr t) = rw (t.not_refused, t.call_is, eq-eqb h h refl) (rw t.takes)

unfoldable none_clearing : ℕ → List Made → Site → Bool
none_clearing h [] s = true
none_clearing h (m ∷ ms) s = not (clearing h m s) && none_clearing h ms (after_call m s)

none_clears : (h : ℕ) (ms : List Made) (s : Site) → none_clearing h ms s ≡ true → NoneClears h ms s
unfolding none_clearing
none_clears h [] s e = tt
none_clears h (m ∷ ms) s e =
    let p = and_true (not (clearing h m s)) (none_clearing h ms (after_call m s)) e in
    (λ c. true≢false (sym (clearing_is h m s c) ∙ not-true (clearing h m s) p.0), none_clears h ms (after_call m s) p.1)

unfoldable none_between : ℕ → List Fetch → Site → Bool
none_between h [] s = true
none_between h (f ∷ fs) s = fits f.scratch && (none_clearing h f.before s && none_between h fs (after f.before s))

none_between_lem : (h : ℕ) (fs : List Fetch) (s : Site) → none_between h fs s ≡ true → NoneBetween h fs s
unfolding none_between
none_between_lem h [] s e = tt
none_between_lem h (f ∷ fs) s e =
    let p = and_true (fits f.scratch) (none_clearing h f.before s && none_between h fs (after f.before s)) e in
    let q = and_true (none_clearing h f.before s) (none_between h fs (after f.before s)) p.1 in
    (p.0, (none_clears h f.before s q.0, none_between_lem h fs (after f.before s) q.1))

-- ---- fetches from a sheet of house 2 after the calls ms, where its counts name these lines

lines_told : (ms : List Made) (w : OpenSheet) (fs : List Fetch) (rows : List (List ℕ)) → none_between 2 fs (after ms empty_site) ≡ true
    → w.removals ≡ removals_at 2 (after ms empty_site) → is_beyond (register_at 2 (after ms empty_site)) w ≡ false
    → drop w.place (opened_lines (register_at 2 (after ms empty_site)) w) ≡ rows → fetched_by 2 fs (series ms no_houses) w ≡ lines_then_done (length fs) rows w
lines_told ms w fs rows n c b e =
    (sheets_of 2 inside no_houses empty_site sound_empty holds_empty).named_lines ms w c b d fs (none_between_lem 2 fs (after ms empty_site) n)
    ∙ ap (λ (ls : List (List ℕ)). lines_then_done (length fs) ls w) (ap (λ (ls : List (List ℕ)). drop w.place ls) (sym d.lines_are) ∙ e)
  where
    inside : 2 < houses
    inside = omega arith

    d : NamedIn (register_at 2 (after ms empty_site)) w
    d = named (register_at 2 (after ms empty_site)) ((from_start ms).sound.reachable 2 inside) w b

-- ---- Before the second line a pipe is committed, and house 1 is grown; before the third fetch a pipe is landed by a list, a grow is refused with
-- 25 and a removal with 38, a pipe is taken out of house 1, and a tag is found.

-- a fetch with scratch of the right sizes, after these calls
unfoldable pub behind : List Made → Fetch
behind ms = record { before = ms; scratch = cleared }

unfoldable pub grown : List Made
grown = here (grows four) ∷ []

unfoldable pub printing : List Fetch
printing =
    behind [] ∷
    behind (here (commits fifth_quote) ∷ made (in_house 1 (grows line)) ∷ []) ∷
    behind (
    here (lands (list_of 0 (edge 3 6 900 ∷ []))) ∷ unfit (grows loop) ∷ here (removes 6 (replicate 9 0)) ∷ made (in_house 1 (removes 0 (replicate 30 0))) ∷
    here (finds 8195) ∷ []
    ) ∷
    behind [] ∷ []

unfoldable prints : Unit {0}
unfolding settling calling takes_out clears_house clears_in clearing none_clearing none_between behind grown printing
prints = tt

pub house_opened : (makes (here opens) (series grown no_houses)).reply ≡ opened (sheet_of 7 4 0)
unfolding prints
house_opened = let d = from_start grown in (call_does (series grown no_houses) (after grown empty_site) d.sound d.holds (here opens)).reply_is ∙ refl

pub house_printed : fetched_by 2 printing (series grown no_houses) (sheet_of 7 4 0)
    ≡ fetched (0 ∷ 0 ∷ 2 ∷ 1 ∷ 3000 ∷ 0 ∷ []) (sheet_of 7 4 1) ∷ fetched (2 ∷ 3 ∷ 5 ∷ 1 ∷ 1200 ∷ 0 ∷ []) (sheet_of 7 4 2)
    ∷ finished (sheet_of 7 4 2) ∷ finished (sheet_of 7 4 2) ∷ []
unfolding prints
house_printed = lines_told grown (sheet_of 7 4 0) printing _ refl refl refl refl

-- ---- the same sheet at its second line, after a grow from other pipes

unfoldable pub regrown : List Made
regrown = here (grows four) ∷ here (grows other_four) ∷ []

pub others_printed : fetched_by 2 printing (series regrown no_houses) (sheet_of 7 4 1)
    ≡ fetched (2 ∷ 0 ∷ 1 ∷ 0 ∷ 13 ∷ 0 ∷ []) (sheet_of 7 4 2) ∷ fetched (3 ∷ 2 ∷ 3 ∷ 0 ∷ 14 ∷ 0 ∷ []) (sheet_of 7 4 3)
    ∷ finished (sheet_of 7 4 3) ∷ finished (sheet_of 7 4 3) ∷ []
unfolding prints regrown
others_printed = lines_told regrown (sheet_of 7 4 1) printing _ refl refl refl refl

-- ---- Before the second line a pipe is taken out, which ends the sheet, and landing it again does not let it go on; a grow does, since the count
-- is 0 again.

unfoldable pub ending : List Fetch
ending =
    behind [] ∷
    behind (here (removes 3 (replicate 9 0)) ∷ []) ∷
    behind (here (lands (list_of 0 (edge 4 5 700 ∷ []))) ∷ []) ∷
    behind (here (grows other_four) ∷ []) ∷
    behind [] ∷ []

pub house_ended : fetched_by 2 ending (series grown no_houses) (sheet_of 7 4 0)
    ≡ fetched (0 ∷ 0 ∷ 2 ∷ 1 ∷ 3000 ∷ 0 ∷ []) (sheet_of 7 4 1) ∷ refuses 39 ∷ refuses 39
    ∷ fetched (2 ∷ 0 ∷ 1 ∷ 0 ∷ 13 ∷ 0 ∷ []) (sheet_of 7 4 2) ∷ fetched (3 ∷ 2 ∷ 3 ∷ 0 ∷ 14 ∷ 0 ∷ []) (sheet_of 7 4 3) ∷ []
unfolding prints fetches_at ending
house_ended = let d = from_start grown in fetched_settled 2 ending (series grown no_houses) (after grown empty_site) d.sound d.holds (sheet_of 7 4 0) ∙ refl
