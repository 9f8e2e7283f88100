-- What a question is answered is no refusal of the gate: neither 21 nor 25.
use mathlib.Core.Logic.{◌≢◌}
use Prim.Native.Nat.{ℕ, ◌≤◌}
use native.Mathlib.Omega.{arith}
use mathlib.Core.Bool.{not, ◌&&◌}
use mathlib.Core.Option.{Option, none, some}
use mathlib.Core.List.{List}
use lib.ListN.{length}
use lib.Dec.{ltb}
use Rattle.model.specs.Basics.{up_to}
use Rattle.model.specs.Labels.{vertex_on_ring}
use Rattle.model.specs.Register.{Register, label_of}
use Rattle.model.specs.Format.{written}
use Rattle.model.specs.Queries.{Reply, find, find_at, found, found_at, listed, measure, measured, read, refuses, reported, sheet_numbers, vertex_with, wrote, quoted, committed, allotted, OpenSheet, opened, fetched, finished}
use Rattle.model.specs.Opened.{fetch, fetch_line, is_beyond, is_ended, line_at, opened_lines}
use Rattle.model.specs.Calls.{Answer, Ask, House, answer, answers, fills, finding, finding_at, measuring, quoting, opening, fetching, sheeting, writing}
use Rattle.model.proofs.Basics.Booleans.{if_either}

-- the refusal that a reply is, or 0
unfoldable pub refusal_of : Reply → ℕ
refusal_of (read s) = 0
refusal_of (found d v low high) = 0
refusal_of (measured l) = 0
refusal_of (listed n) = 0
refusal_of (wrote n) = 0
refusal_of (quoted q) = 0
refusal_of committed = 0
refusal_of (opened s) = 0
refusal_of (fetched ns s) = 0
refusal_of (finished s) = 0
refusal_of (reported n) = 0
refusal_of allotted = 0
refusal_of (refuses n) = n

-- a result, or a refusal that is neither 21 nor 25
abbrev pub Own : Reply → Type 0
Own a = (refusal_of a ≢ 21) × (refusal_of a ≢ 25)

pub own : (n : ℕ) → n ≤ 9 → (n ≢ 21) × (n ≢ 25)
own n h = (λ e. omega arith, λ e. omega arith)

own_found : (r : Register) (v : ℕ) → Own (found_at r v)
unfolding found_at refusal_of
own_found r v = if_either Own (vertex_on_ring r.edges v) _ _ (own 0 (omega arith)) (own 0 (omega arith))

own_find : (r : Register) (label : ℕ) → Own (find r label)
unfolding find refusal_of
own_find r label = go (vertex_with r label (up_to r.vertices))
  where
    go : (o : Option ℕ) → Own (elim o [ some v ↦ found_at r v | none ↦ refuses 8 ])
    go (some v) = own_found r v
    go none = own 8 (omega arith)

own_find_at : (r : Register) (v : ℕ) → Own (find_at r v)
unfolding find_at
own_find_at r v = own_find r (label_of r v)

own_measure : (r : Register) (v w : ℕ) → Own (measure r v w)
unfolding measure refusal_of
own_measure r v w = if_either Own (not (ltb v r.vertices && ltb w r.vertices)) (refuses 5) _ (own 5 (omega arith)) (own 0 (omega arith))

own_fills : (slice ns : List ℕ) (a : Reply) → Own a → Own (fills slice ns a).reply
unfolding fills refusal_of
own_fills slice ns a h = if_either (λ (x : Answer). Own x.reply) (ltb (length slice) (length ns)) _ _ (own 9 (omega arith)) h

own_fetch : (removals : ℕ) (r : Register) (s : OpenSheet) → Own (fetch removals r s)
unfolding fetch fetch_line refusal_of
own_fetch removals r s =
    if_either Own (is_ended removals s) (refuses 39) _ (λ e. omega arith, λ e. omega arith)
    (if_either Own (is_beyond r s) (refuses 33) _ (λ e. omega arith, λ e. omega arith) (go (line_at s.place (opened_lines r s))))
  where
    go : (o : Option (List ℕ)) → Own (fetch_line s o)
    go (some ns) = own 0 (omega arith)
    go none = own 0 (omega arith)

pub own_answer : (q : Ask) (s : House) → Own (answer q s).reply
unfolding answer answers refusal_of
own_answer (finding label) s = own_find s.register label
own_answer (finding_at v) s = own_find_at s.register v
own_answer (measuring v w) s = own_measure s.register v w
own_answer (sheeting slice) s = own_fills slice (sheet_numbers s.register) _ (own 0 (omega arith))
own_answer (writing slice) s = own_fills slice (written s.register) _ (own 0 (omega arith))
own_answer (quoting e) s = own 0 (omega arith)
own_answer opening s = own 0 (omega arith)
own_answer (fetching o) s = own_fetch s.removals s.register o
