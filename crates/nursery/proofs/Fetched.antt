-- The proofs of what Fetching states.
use mathlib.Core.Path.{◌≡◌, refl, sym, ap, ◌∙◌, subst}
use mathlib.Core.Logic.{◌≢◌}
use Prim.Native.Nat.{ℕ, zero, suc, ◌<◌}
use native.Mathlib.Omega.{arith}
use native.Mathlib.Numerals.{add-one}
use mathlib.Core.Bool.{true, false}
use mathlib.Core.List.{List, [], ◌∷◌, ◌++◌}
use mathlib.Core.Option.{Option, none, some}
use lib.ListN.{length, drop}
use Rattle.model.specs.Register.{Register}
use Rattle.model.specs.Queries.{OpenSheet, Reply, fetched, finished, opened, refuses, sheet}
use Rattle.model.specs.Opened.{fetch, fetch_line, is_beyond, line_at, moved_on, opened_edges, opened_lines, opening_of}
use Rattle.model.specs.Tables.{Tables, fits}
use Rattle.model.specs.Calls.{Answer, Ask, answer, answers, fetching, opening}
use Rattle.model.specs.Notions.{lines_then_done, next_sheet}
use Rattle.theory.proofs.Registers.Named.{lines_stay, opened_sheet, opened_within, still_within}
use Rattle.model.proofs.Registers.Fetched.{fetch_ended, fetch_within, moved_on_lem, only_ended}
use Rattle.nursery.specs.Licence.{houses}
use Rattle.nursery.specs.Nursery.{Nursery, house_in, register_in, removals_in}
use Rattle.nursery.specs.Calls.{Lent, Outcome, asks, barred, effect, fetches, grown_by, in_house, opens, own_of, step}
use Rattle.nursery.specs.Series.{Made, Site, after, after_call, asked_of, house_at, makes, register_at, removals_at, reply_to, series}
use Rattle.nursery.specs.Notions.{Fetch, fetched_by, site_of}
use Rattle.nursery.proofs.State.{Holds, Sound}
use Rattle.nursery.proofs.Kept.{call_does}
use Rattle.nursery.proofs.Whole.{SeriesDoes, asked_is, series_does}
use Rattle.nursery.proofs.Clearing.{Grows, Removes}
use Rattle.nursery.proofs.Onwards.{NoneGrows, Onwards, grow_counts, removal_counts, series_count, series_onwards}
use Rattle.nursery.proofs.Gate.{is_open, open_inside, question_quiet, register_reachable, step_barred, step_effect}
use Rattle.nursery.proofs.Holding.{held_each, holds_read, register_of, removals_of, sound_read}
use Rattle.nursery.proofs.Fetching.{NoneBetween, PrintsOpened, Sheets}

-- ---- one fetch

-- a question leaves all houses
makes_quiet : (h : ℕ) (q : Ask) (scratch : Tables) (n : Nursery) → (makes (record { call = in_house h (asks q); scratch = scratch }) n).lent.nursery ≡ n
unfolding makes
makes_quiet h q scratch n = question_quiet h q (record { nursery = n; scratch = scratch })

by_answer : (h : ℕ) (f : Fetch) (fs : List Fetch) (n : Nursery) (w : OpenSheet) (a : Reply)
    → (makes (record { call = in_house h (fetches w); scratch = f.scratch }) (series f.before n)).reply ≡ a
    → fetched_by h (f ∷ fs) n w ≡ a ∷ fetched_by h fs (series f.before n) (next_sheet w a)
unfolding fetched_by
by_answer h f fs n w a e = rw (fetched_by, e, makes_quiet h (fetching w) f.scratch (series f.before n))

-- the line at a place, and those behind it
record AtPlace (n : ℕ) (rows : List (List ℕ)) (ns : List ℕ) (rest : List (List ℕ)) : Type 0 where
  line : line_at n rows ≡ some ns
  behind : drop (suc n) rows ≡ rest

at_place : (n : ℕ) (rows : List (List ℕ)) (ns : List ℕ) (rest : List (List ℕ)) → drop n rows ≡ ns ∷ rest → AtPlace n rows ns rest
unfolding line_at
at_place zero [] ns rest h = absurd (let z : ◌≡◌ {A = ℕ} 0 1 = cc in omega arith)
at_place zero (ms ∷ rows) ns rest h = record { line = cc; behind = cc }
at_place (suc n) [] ns rest h = absurd (let z : ◌≡◌ {A = ℕ} 0 1 = cc in omega arith)
at_place (suc n) (ms ∷ rows) ns rest h =
    let a = at_place n rows ns rest h in
    record { line = a.line; behind = a.behind }

past_all : (n : ℕ) (rows : List (List ℕ)) → drop n rows ≡ [] → line_at n rows ≡ none
unfolding line_at
past_all zero [] h = refl
past_all zero (ms ∷ rows) h = absurd (let z : ◌≡◌ {A = ℕ} 0 1 = cc in omega arith)
past_all (suc n) [] h = refl
past_all (suc n) (ms ∷ rows) h = past_all n rows h

-- a sheet's place decides neither 39 nor 33 nor its lines
moved_count : (w : OpenSheet) → (moved_on w).removals ≡ w.removals
unfolding moved_on
moved_count w = refl

moved_within : (r : Register) (w : OpenSheet) → is_beyond r (moved_on w) ≡ is_beyond r w
unfolding moved_on is_beyond opened_edges
moved_within r w = refl

moved_lines : (r : Register) (w : OpenSheet) → opened_lines r (moved_on w) ≡ opened_lines r w
unfolding moved_on opened_lines opened_edges
moved_lines r w = refl

-- whatever is lent: a fetch that 25, 21 and 37 do not bar answers for the house that it finds
pub fetched_as : (h : ℕ) (w : OpenSheet) (l : Lent) → barred (in_house h (fetches w)) l ≡ none
    → (step (in_house h (fetches w)) l).reply ≡ fetch (removals_in h l.nursery) (register_in h l.nursery) w
unfolding effect answer answers house_in
fetched_as h w l free = ap (λ (p : Outcome). p.reply) (step_effect h (fetches w) l _ free refl)

-- ---- fetches, one after the other

module _ (h : ℕ) (l : h < houses) where
  -- a fetch answers for the house as it is
  fetch_told : (n : Nursery) (s : Site) → Sound s → Holds n s → (scratch : Tables) → fits scratch ≡ true → (w : OpenSheet)
      → (makes (record { call = in_house h (fetches w); scratch = scratch }) n).reply ≡ fetch (removals_at h s) (register_at h s) w
  unfolding asked_of answer answers house_at
  fetch_told n s o k scratch ok w = ap (λ (x : Answer). x.reply) (asked_is n s o k h l scratch ok (fetching w))

  lines_left : (fs : List Fetch) (n : Nursery) (s : Site) → Sound s → Holds n s → (w : OpenSheet) → w.removals ≡ removals_at h s
      → is_beyond (register_at h s) w ≡ false → NoneBetween h fs s
      → (rows : List (List ℕ)) → drop w.place (opened_lines (register_at h s) w) ≡ rows → fetched_by h fs n w ≡ lines_then_done (length fs) rows w
  unfolding fetched_by lines_then_done fetch_line next_sheet
  lines_left [] n s o k w c b quiet rows e = refl
  lines_left (f ∷ fs) n s o k w c b quiet rows e =
      go rows e (λ w' c' b' rows' e'. lines_left fs n' s' d.sound d.holds w' c' b' quiet.1.1 rows' e')
    where
      n' : Nursery
      n' = series f.before n

      s' : Site
      s' = after f.before s

      d : SeriesDoes f.before n s
      d = series_does f.before n s o k

      on : Onwards h s s'
      on = series_onwards h l f.before n s o k quiet.1.0

      count : w.removals ≡ removals_at h s'
      count = c ∙ sym on.count_stays

      still : is_beyond (register_at h s') w ≡ false
      still = still_within (register_at h s) (register_at h s') on.landed_since w b

      same : opened_lines (register_at h s') w ≡ opened_lines (register_at h s) w
      same = lines_stay (register_at h s) (register_at h s') on.landed_since w b

      answered : (x : Option (List ℕ)) → line_at w.place (opened_lines (register_at h s) w) ≡ x
          → (makes (record { call = in_house h (fetches w); scratch = f.scratch }) n').reply ≡ fetch_line w x
      answered x q =
          fetch_told n' s' d.sound d.holds f.scratch quiet.0 w
          ∙ fetch_within (removals_at h s') (register_at h s') w count still
          ∙ ap (λ (ls : List (List ℕ)). fetch_line w (line_at w.place ls)) same
          ∙ ap (fetch_line w) q

      go : (rows : List (List ℕ)) → drop w.place (opened_lines (register_at h s) w) ≡ rows
          → ((w' : OpenSheet) → w'.removals ≡ removals_at h s' → is_beyond (register_at h s') w' ≡ false
          → (rows' : List (List ℕ)) → drop w'.place (opened_lines (register_at h s') w') ≡ rows' → fetched_by h fs n' w' ≡ lines_then_done (length fs) rows' w')
          → fetched_by h (f ∷ fs) n w ≡ lines_then_done (suc (length fs)) rows w
      go [] e ih =
          by_answer h f fs n w (finished w) (answered none (past_all w.place (opened_lines (register_at h s) w) e))
          ∙ ap (λ (xs : List Reply). finished w ∷ xs) (ih w count still [] (ap (λ (ls : List (List ℕ)). drop w.place ls) same ∙ e))
      go (ns ∷ rows) e ih =
          let a = at_place w.place (opened_lines (register_at h s) w) ns rows e in
          let left : drop (moved_on w).place (opened_lines (register_at h s') (moved_on w)) ≡ rows =
          ap (λ (i : ℕ). drop i (opened_lines (register_at h s') (moved_on w))) (moved_on_lem w ∙ add-one w.place)
          ∙ ap (λ (ls : List (List ℕ)). drop (suc w.place) ls) (moved_lines (register_at h s') w ∙ same) ∙ a.behind in
          by_answer h f fs n w (fetched ns (moved_on w)) (answered (some ns) a.line)
          ∙ ap (λ (xs : List Reply). fetched ns (moved_on w) ∷ xs) (ih (moved_on w) (moved_count w ∙ count) (moved_within (register_at h s') w ∙ still) rows left)

-- ---- what holds of any eight sound houses

after_append : (ms ks : List Made) (s : Site) → after (ms ++ ks) s ≡ after ks (after ms s)
unfolding after
after_append [] ks s = refl
after_append (m ∷ ms) ks s = after_append ms ks (after_call m s)

after_one : (ms : List Made) (m : Made) (ks : List Made) (s : Site) → after (ms ++ (m ∷ ks)) s ≡ after ks (after_call m (after ms s))
unfolding after
after_one ms m ks s = after_append ms (m ∷ ks) s

after_last : (ms : List Made) (m : Made) (s : Site) → after (ms ++ (m ∷ [])) s ≡ after_call m (after ms s)
unfolding after
after_last ms m s = after_append ms (m ∷ []) s

-- all that holds of any eight sound houses that a nursery holds: of those at the end of a series, and of those that an opening finds
pub sheets_of : (h : ℕ) → h < houses → (n : Nursery) (s : Site) → Sound s → Holds n s → Sheets h n s
sheets_of h l n s o k =
    record {
      fetched_now = now;
      named_lines = λ ms w c b d fs quiet.
          let x = series_does ms n s o k in
          lines_left h l fs (series ms n) (after ms s) x.sound x.holds w c b quiet _ (ap (λ (ls : List (List ℕ)). drop w.place ls) d.lines_are);
      ended = is_ended_lem;
      only_ended = λ ms scratch ok w e. only_ended (removals_at h (after ms s)) (register_at h (after ms s)) w (sym (now ms scratch ok w) ∙ e);
      ended_after = λ ms m ks a r b scratch ok w c.
          is_ended_lem (ms ++ (m ∷ ks)) scratch ok w (λ z. omega (arith, removed_more ms m ks a r b, c, z));
      ended_by_grow = λ ms m g scratch ok w d.
          is_ended_lem (ms ++ (m ∷ [])) scratch ok w (λ z. d (z ∙ grown_none ms m g));
    }
  where
    now : (ms : List Made) (scratch : Tables) → fits scratch ≡ true → (w : OpenSheet)
        → (makes (record { call = in_house h (fetches w); scratch = scratch }) (series ms n)).reply ≡ fetch (removals_at h (after ms s)) (register_at h (after ms s)) w
    now ms scratch ok w = let x = series_does ms n s o k in fetch_told h l (series ms n) (after ms s) x.sound x.holds scratch ok w

    is_ended_lem : (ms : List Made) (scratch : Tables) → fits scratch ≡ true → (w : OpenSheet) → w.removals ≢ removals_at h (after ms s)
        → (makes (record { call = in_house h (fetches w); scratch = scratch }) (series ms n)).reply ≡ refuses 39
    is_ended_lem ms scratch ok w d = now ms scratch ok w ∙ fetch_ended (removals_at h (after ms s)) (register_at h (after ms s)) w d

    removed_more : (ms : List Made) (m : Made) (ks : List Made) → NoneGrows h ms s → Removes h m (after ms s) → NoneGrows h ks (after_call m (after ms s))
        → removals_at h s < removals_at h (after (ms ++ (m ∷ ks)) s)
    removed_more ms m ks a r b =
        let x = series_does ms n s o k in
        let y = call_does (series ms n) (after ms s) x.sound x.holds m in
        rw (after_one ms m ks s)
        (omega (
          arith,
          series_count h l ms n s o k a,
          removal_counts h l (after ms s) x.sound m r,
          series_count h l ks (makes m (series ms n)).lent.nursery (after_call m (after ms s)) y.sound y.holds b,
        ))

    grown_none : (ms : List Made) (m : Made) → Grows h m (after ms s) → removals_at h (after (ms ++ (m ∷ [])) s) ≡ 0
    grown_none ms m g = rw (after_last ms m s) (grow_counts h l (after ms s) (series_does ms n s o k).sound m g)

-- what some fetches in house h answer, as the calls alone settle it
unfoldable pub fetches_at : ℕ → List Fetch → Site → OpenSheet → List Reply
fetches_at h [] s w = []
fetches_at h (f ∷ fs) s w =
    let a = reply_to (record { call = in_house h (fetches w); scratch = f.scratch }) (after f.before s) in
    a ∷ fetches_at h fs (after f.before s) (next_sheet w a)

-- they answer so over the tables that the calls leave, whatever is called between, and for any house number
pub fetched_settled : (h : ℕ) (fs : List Fetch) (n : Nursery) (s : Site) → Sound s → Holds n s → (w : OpenSheet) → fetched_by h fs n w ≡ fetches_at h fs s w
unfolding fetched_by fetches_at
fetched_settled h [] n s o k w = refl
fetched_settled h (f ∷ fs) n s o k w =
    let d = series_does f.before n s o k in
    let m : Made = record { call = in_house h (fetches w); scratch = f.scratch } in
    let a = reply_to m (after f.before s) in
    by_answer h f fs n w a (call_does (series f.before n) (after f.before s) d.sound d.holds m).reply_is
    ∙ ap (λ (xs : List Reply). a ∷ xs) (fetched_settled h fs (series f.before n) (after f.before s) d.sound d.holds (next_sheet w a))

-- ---- a sheet that was opened

not_opened : (x : ℕ) (s : OpenSheet) → refuses x ≢ opened s
not_opened x s e = let z : ◌≡◌ {A = ℕ} 0 1 = cc in omega arith

opened_is : (s s' : OpenSheet) → opened s ≡ opened s' → s ≡ s'
opened_is s s' e = cc

-- whatever is lent: if a sheet is opened, it prints so; the heads and the counts of removals are eight, as their type has it
pub prints_opened : (h : ℕ) (l : Lent) → length l.nursery.heads ≡ houses → length l.nursery.removals ≡ houses → (w : OpenSheet)
    → (step (in_house h opens) l).reply ≡ opened w → PrintsOpened h (step (in_house h opens) l).lent.nursery w
unfolding own_of grown_by effect answer answers house_in opening_of
prints_opened h l heads counts w e =
    subst (λ (n : Nursery). PrintsOpened h n w) (sym (question_quiet h opening l)) (go (barred (in_house h opens) l) refl)
  where
    n : Nursery
    n = l.nursery

    r : Register
    r = register_in h n

    now : OpenSheet
    now = opening_of (removals_in h n) r

    prints : h < houses → barred (in_house h opens) l ≡ none → PrintsOpened h n now
    prints i free =
        let o = sound_read (in_house h opens) l refl free heads counts in
        let k = holds_read (in_house h opens) l refl free heads counts in
        let is : r ≡ register_at h (site_of n) = sym (register_of n h i) in
        record {
          register = r;
          held_is = held_each (in_house h opens) l refl free heads counts h i;
          opening_is = refl;
          line_by_line = λ fs quiet.
              lines_left h i fs n (site_of n) o k now (sym (removals_of n h))
              (subst (λ (x : Register). is_beyond x now ≡ false) is (opened_within (removals_in h n) r (register_reachable h n)))
              quiet (sheet r) (subst (λ (x : Register). opened_lines x now ≡ sheet r) is (opened_sheet (removals_in h n) r));
          afterwards = sheets_of h i n (site_of n) o k;
        }

    go : (x : Option ℕ) → barred (in_house h opens) l ≡ x → PrintsOpened h n w
    go (some x) b = absurd (not_opened x w (sym (ap (λ (p : Outcome). p.reply) (step_barred (in_house h opens) l x b)) ∙ e))
    go none b =
        let is : now ≡ w = opened_is now w (sym (ap (λ (p : Outcome). p.reply) (step_effect h opens l _ b refl)) ∙ e) in
        subst (PrintsOpened h n) is (prints (open_inside h opens l (is_open (in_house h opens) l b)) b)
