-- What is fetched over the tables of a register is what is defined to be fetched from it.
use Rattle.std.specs.Prelude.{if◌then◌else◌}
use mathlib.Core.Path.{◌≡◌, refl, sym, ap, ◌∙◌, subst}
use mathlib.Core.Logic.{◌≢◌}
use Prim.Native.Nat.{ℕ, zero, suc, ◌≤◌}
use native.Mathlib.Omega.{arith}
use native.Mathlib.Nat.{not-suc-le-zero}
use mathlib.Core.Bool.{Bool, true, false}
use mathlib.Core.List.{List, [], ◌∷◌, map}
use mathlib.Core.Option.{some}
use lib.ListN.{length, take}
use lib.Dec.{ltb}
use borrow.Author.Tests.{eq-eqb, ltb-false}
use Rattle.model.specs.Basics.{count_from, max_edges, up_to}
use Rattle.model.specs.Graph.{Edge}
use Rattle.model.specs.Register.{Landed, Register, landed, refused}
use Rattle.model.specs.Queries.{OpenSheet, Reply, refuses, sheet}
use Rattle.model.specs.Opened.{any_beyond, fetch, fetch_line, is_beyond, is_ended, line_at, opened_edges, opened_lines}
use Rattle.model.specs.Tables.{Counts, Stored, Tables, cleared, counts_of, grow_from, stored_edge, stored_edges, tables_of}
use Rattle.model.specs.Calls.{House, answer, answers, fetching}
use Rattle.model.specs.Notions.{HeldOf, NamedIn, Reachable}
use Rattle.model.proofs.Registers.Fetched.{fetch_ended}
use Rattle.theory.proofs.Registers.Named.{beyond_refused, named}
use Rattle.theory.proofs.Registers.OnlyHeld.{held_counts, held_tables}
use Rattle.model.proofs.Registers.ReadBack.{edges_read}
use Rattle.tables.specs.Meaning.{stored}
use Rattle.counters.specs.Answers.{counts}
use Rattle.insertion.specs.Insertion.{AnswerIn, done, refused_in}
use Rattle.agreement.proofs.Sheeting.{sheet_agrees, sheet_over}
use Rattle.holding.specs.Replay.{left_as, left_by}
use Rattle.holding.proofs.ReplayLaws.{none_some, stored_is}
use Rattle.holding.proofs.Regrowing.{Agrees, growing, regrow_agrees, regrown}
use Rattle.fetching.specs.Fetching.{fetch_in, line_on}

-- ---- the first edges, read back

take_counted : (f : ℕ → Edge) (at k n : ℕ) → k ≤ n → take k (map f (count_from at n)) ≡ map f (count_from at k)
unfolding count_from
take_counted f at zero n h = refl
take_counted f at (suc k) zero h = absurd (not-suc-le-zero h)
take_counted f at (suc k) (suc n) h = ap (λ (es : List Edge). f at ∷ es) (take_counted f (suc at) k n (omega arith))

first_read : (r : Register) (k : ℕ) → k ≤ length r.edges → stored_edges (tables_of r) k ≡ take k r.edges
unfolding stored_edges up_to
first_read r k h = sym (take_counted (stored_edge (tables_of r)) 0 k (length r.edges) h) ∙ ap (take k) (edges_read r)

-- ---- a fetch

module _ (r : Register) (g : Reachable r) (s : OpenSheet) where
  abbrev t : Tables
  t = tables_of r

  -- the opening's counts, and its edges landed on cleared tables
  abbrev c : Counts
  c = counts s.vertices s.edges 0 0

  abbrev fetched_over : Reply
  fetched_over = fetch_in t.ends t.lengths t.volumes (counts_of r) s cleared

  grows_so : s.edges ≤ length r.edges → growing t c ≡ grow_from s.vertices (opened_edges r s)
  unfolding opened_edges
  grows_so h = ap (grow_from s.vertices) (first_read r s.edges h)

  agrees_so : s.edges ≤ length r.edges → (l : Landed) → grow_from s.vertices (opened_edges r s) ≡ l → Agrees l (regrown t c)
  agrees_so h l q = subst (λ (x : Landed). Agrees x (regrown t c)) (grows_so h ∙ q) (regrow_agrees t c)

  -- the line over what the landing left
  line_on_lem : (q : Register) → Reachable q → (counts_of q).edges ≡ s.edges → left_by (regrown t c) ≡ some (stored (tables_of q) (counts_of q))
      → line_on s (regrown t c).tables (regrown t c).answer ≡ fetch_line s (line_at s.place (sheet q))
  line_on_lem q k n e = go (regrown t c).answer refl
    where
      go : (a : AnswerIn) → (regrown t c).answer ≡ a → line_on s (regrown t c).tables (regrown t c).answer ≡ fetch_line s (line_at s.place (sheet q))
      go (done c' rings) p =
          let left : stored (regrown t c).tables c' ≡ stored (tables_of q) (counts_of q) = stored_is _ _ (ap (left_as (regrown t c).tables) (sym p) ∙ e) in
          let is : (regrown t c).tables ≡ tables_of q = ap (λ (x : Stored). x.tables) left in
          ap (line_on s (regrown t c).tables) p ∙ ap (λ (x : Tables). line_on s x (done c' rings)) is
          ∙ ap (λ (rows : List (List ℕ)). fetch_line s (line_at s.place rows)) (ap (λ (m : ℕ). sheet_over (tables_of q) m max_edges) (sym n) ∙ sheet_agrees q k max_edges (omega arith))
      go (refused_in x) p = absurd (none_some _ (ap (left_as (regrown t c).tables) (sym p) ∙ e))

  over_agrees : fetched_over ≡ (if is_beyond r s then refuses 33 else fetch_line s (line_at s.place (opened_lines r s)))
  unfolding fetch_in is_beyond counts_of opened_edges
  over_agrees = go _ refl _ refl _ refl
    where
      go : (v : Bool) → ltb r.vertices s.vertices ≡ v → (e : Bool) → ltb (length r.edges) s.edges ≡ e
          → (b : Bool) → any_beyond s.vertices (opened_edges r s) ≡ b
          → fetched_over ≡ (if is_beyond r s then refuses 33 else fetch_line s (line_at s.place (opened_lines r s)))
      go true p e q b w = rw p
      go false p true q b w = rw (p, q)
      go false p false q true w =
          let v = ltb-false r.vertices s.vertices p in
          let e = ltb-false (length r.edges) s.edges q in
          let a : (regrown t c).answer ≡ refused_in 5 = agrees_so e (refused 5) (beyond_refused r g s v e w) in
          rw (p, q, w) (ap (line_on s (regrown t c).tables) a)
      go false p false q false w =
          let b : is_beyond r s ≡ false = rw (p, q) w in
          let n : NamedIn r s = named r g s b in
          let a = agrees_so (ltb-false (length r.edges) s.edges q) (landed n.register) n.grown in
          rw (p, q, w) (line_on_lem n.register n.reachable n.edges_counted a ∙ ap (λ (rows : List (List ℕ)). fetch_line s (line_at s.place rows)) (sym n.lines_are))

  -- a sheet with the count of removals that the house has
  pub fetch_agrees : (removals : ℕ) → s.removals ≡ removals → fetched_over ≡ fetch removals r s
  unfolding fetch is_ended
  fetch_agrees removals e = rw (eq-eqb s.removals removals e) over_agrees

-- so is it from tables and counts that hold a register
pub fetch_answers : (t : Tables) (c : Counts) (s : OpenSheet) (a : Reply) → a ≡ fetch_in t.ends t.lengths t.volumes c s cleared
    → (o : House) → HeldOf (stored t c) o.register → s.removals ≡ o.removals → answer (fetching s) o ≡ record { slice = []; reply = a }
unfolding answer answers
fetch_answers t c s a h o k e =
    let r = o.register in
    let f : fetch_in t.ends t.lengths t.volumes c s cleared ≡ fetch o.removals r s = rw (held_tables k, held_counts k) at (fetch_agrees r k.reachable s o.removals e) in
    rw (h, f)

-- and a sheet with another one is ended
pub ended_answers : (s : OpenSheet) (o : House) → s.removals ≢ o.removals → answer (fetching s) o ≡ record { slice = []; reply = refuses 39 }
unfolding answer answers
ended_answers s o d = rw (fetch_ended o.removals o.register s d)
