-- Every series of calls from empty leaves a window whose records are the last 1,440 that arrived.
use Rattle.std.specs.Prelude.{if◌then◌else◌}
use mathlib.Core.Path.{◌≡◌, refl, sym, ap, ◌∙◌}
use Prim.Native.Nat.{ℕ, zero, suc, ◌+◌, ◌-◌, ◌*◌, ◌≤◌}
use native.Mathlib.Omega.{arith}
use mathlib.Core.Bool.{Bool, true, false}
use mathlib.Core.List.{List, [], ◌∷◌, ◌++◌}
use lib.ListN.{get_or, take, replicate, length-replicate}
use lib.Seq.{take_all, take-take, take-nil}
use lib.Dec.{ltb}
use borrow.Author.Tests.{ltb-false, le-ltb}
use Rattle.valve.specs.Numbers.{slots, max_amount}
use Rattle.valve.specs.Window.{Record, record_of, total, Window, empty, before, newest, records_of, sizes_fit, all_within, held}
use Rattle.valve.specs.Valve.{taken, older, refuses, at_valve}
use Rattle.valve.specs.Calls.{with_record, Outcome, outcome, gated, arrives, asks}
use Rattle.valve.specs.Series.{Call, arrival, question, makes, series, taking, arrivals, latest, ValveIsRight, EverySeries}
use Rattle.valve.proofs.Ring.{newest_length, newest_take}
use Rattle.valve.proofs.Totals.{total_most}
use Rattle.valve.proofs.Back.{older_only, older_then, never_refuses, answered_by, holder_answers, holder_some}
use Rattle.valve.proofs.Holding.{Sized, sizes_fit_lem, Holds, is_held, records_with, sized_with, holds_with}

-- what an untouched slot holds
unfoldable pub blank : Record
blank = record_of 0 0

-- ---- untouched slots change no sum and no answer

zeros_total : (n m : ℕ) → total (take n (replicate m blank)) ≡ 0
unfolding total blank
zeros_total zero m = refl
zeros_total (suc n) zero = refl
zeros_total (suc n) (suc m) = omega (arith, zeros_total n m)

total_behind : (n m : ℕ) (rs : List Record) → total (take n (rs ++ replicate m blank)) ≡ total (take n rs)
unfolding total
total_behind n m [] = zeros_total n m ∙ sym (ap total (take-nil n))
total_behind zero m (r ∷ rs) = refl
total_behind (suc n) m (r ∷ rs) = ap (λ (k : ℕ). r.amount + k) (total_behind n m rs)

zeros_answer : (v n m : ℕ) → at_valve v (take n (replicate m blank)) ≡ older
unfolding at_valve blank
zeros_answer v zero m = refl
zeros_answer v (suc n) zero = refl
zeros_answer v (suc n) (suc m) = rw (le-ltb v 0 (omega arith), at_valve) (zeros_answer (v - 0) n m)

answer_behind : (v n m : ℕ) (rs : List Record) → at_valve v (take n (rs ++ replicate m blank)) ≡ at_valve v (take n rs)
unfolding at_valve
answer_behind v n m [] = zeros_answer v n m ∙ sym (ap (at_valve v) (take-nil n))
answer_behind v zero m (r ∷ rs) = refl
answer_behind v (suc n) m (r ∷ rs) = go (ltb v r.amount) refl (answer_behind (v - r.amount) n m rs)
  where
    go : (t : Bool) → ltb v r.amount ≡ t
        → at_valve (v - r.amount) (take n (rs ++ replicate m blank)) ≡ at_valve (v - r.amount) (take n rs)
        → at_valve v (r ∷ take n (rs ++ replicate m blank)) ≡ at_valve v (r ∷ take n rs)
    go true t ih = rw (t, at_valve)
    go false t ih = rw (t, at_valve) ih

-- ---- the invariant

-- the window's records are the last 1,440 of those that arrived, and of untouched slots behind them
pub record Keeps (w : Window) (rs : List Record) : Type 0 where
  pub sizes : Sized w.recipes w.amounts
  pub holding : Holds w
  pub records : records_of w ≡ take (suc 1439) (rs ++ replicate slots blank)

-- one more arrives
take_cons : (n : ℕ) (r : Record) (rs xs : List Record) → xs ≡ take n rs → r ∷ xs ≡ take (suc n) (r ∷ rs)
take_cons n r rs xs e = ap (λ (ys : List Record). r ∷ ys) e

keeps_with : (w : Window) (rs : List Record) (r : Record) → Keeps w rs → r.amount ≤ max_amount → Keeps (with_record r w) (r ∷ rs)
unfolding records_of
keeps_with w rs r k l =
    let shorter : newest w.recipes w.amounts 1439 w.next ≡ take 1439 (rs ++ replicate slots blank) =
    sym (newest_take w.recipes w.amounts 1439 w.next) ∙ ap (λ (xs : List Record). take 1439 xs) k.records
    ∙ take-take 1439 (suc 1439) (rs ++ replicate slots blank) (omega arith) in
    record {
      sizes = sized_with r w k.sizes k.holding;
      holding = holds_with r w k.sizes k.holding l;
      records = records_with r w k.sizes k.holding ∙ take_cons 1439 r (rs ++ replicate slots blank) _ shorter;
    }

-- ---- from empty

zero_slot : (n i : ℕ) → get_or (replicate {A = ℕ} n 0) i 0 ≡ 0
zero_slot zero i = refl
zero_slot (suc n) zero = refl
zero_slot (suc n) (suc i) = zero_slot n i

-- the records of cleared tables are untouched, within bounds, and hold nothing
pub newest_zeros : (m n i : ℕ) → newest (replicate m 0) (replicate m 0) n i ≡ replicate n blank
unfolding newest blank
newest_zeros m zero i = refl
newest_zeros m (suc n) i = rw (zero_slot m (before i), newest_zeros m n (before i))

pub zeros_within : (n : ℕ) → all_within (replicate n blank) ≡ true
unfolding all_within blank
zeros_within zero = refl
zeros_within (suc n) = zeros_within n

pub zeros_sum : (n : ℕ) → total (replicate n blank) ≡ 0
unfolding total blank
zeros_sum zero = refl
zeros_sum (suc n) = omega (arith, zeros_sum n)

empty_records : records_of empty ≡ replicate slots blank
unfolding records_of empty
empty_records = newest_zeros slots slots 0

-- an empty window keeps what arrived: nothing
pub keeps_empty : Keeps empty []
unfolding empty
keeps_empty =
    record {
      sizes = record { recipes_long = length-replicate {A = ℕ} slots 0; amounts_long = length-replicate {A = ℕ} slots 0 };
      holding = record {
        inside = omega arith;
        within = ap all_within empty_records ∙ zeros_within slots;
        sum_is = ap total empty_records ∙ zeros_sum slots;
      };
      records = empty_records ∙ sym (take_all (suc 1439) (replicate slots blank) (omega (arith, length-replicate slots blank)));
    }

-- ---- a call

module _ (w : Window) (rs : List Record) (k : Keeps w rs) where
  fit : sizes_fit w.recipes w.amounts ≡ true
  fit = sizes_fit_lem w.recipes w.amounts k.sizes

  hold : held w ≡ true
  hold = is_held w k.holding

  pub arrival_is : (r : Record) → arrives r w ≡ if ltb max_amount r.amount then outcome w (refuses 40) else outcome (with_record r w) taken
  unfolding arrives gated
  arrival_is r = rw (fit, hold)

  question_is : (v : ℕ) → asks v w ≡ outcome w (at_valve v (records_of w))
  unfolding asks gated
  question_is v = rw (fit, hold)

  keeps_arrival : (r : Record) → Keeps (arrives r w).window (taking (arrival r) rs)
  unfolding taking
  keeps_arrival r = rw (arrival_is r) (go (ltb max_amount r.amount) refl)
    where
      go : (t : Bool) → ltb max_amount r.amount ≡ t
          → Keeps (if t then outcome w (refuses 40) else outcome (with_record r w) taken).window (if t then rs else r ∷ rs)
      go true e = k
      go false e = keeps_with w rs r k (ltb-false max_amount r.amount e)

  keeps_question : (v : ℕ) → Keeps (asks v w).window (taking (question v) rs)
  unfolding taking
  keeps_question v = rw (question_is v) k

  sum_of : w.sum ≡ total (take slots rs)
  sum_of = sym k.holding.sum_is ∙ ap total k.records ∙ total_behind (suc 1439) slots rs

  answer_is : (v : ℕ) → (asks v w).reply ≡ at_valve v (take slots rs)
  answer_is v = ap (λ (o : Outcome). o.reply) (question_is v) ∙ ap (at_valve v) k.records ∙ answer_behind v (suc 1439) slots rs

  sum_most : w.sum ≤ slots * max_amount
  unfolding records_of
  sum_most =
      omega (arith, k.holding.sum_is, total_most (newest w.recipes w.amounts slots w.next) k.holding.within, newest_length w.recipes w.amounts slots w.next)

  right : ValveIsRight w rs
  unfolding latest
  right =
      record {
        sum_is = sym k.holding.sum_is;
        sum_latest = sum_of;
        answer = answer_is;
        holder = λ v x e. answered_by v x (take slots rs) (sym (answer_is v) ∙ e);
        any_holder = λ v r h. answer_is v ∙ holder_answers v (take slots rs) r h;
        never_of_none = λ v r h. holder_some v (take slots rs) r h;
        older_if = λ v e. older_then v (take slots rs) (sym (answer_is v) ∙ e);
        older_only_if = λ v l. answer_is v ∙ older_only v (take slots rs) l;
        never_refused = λ v n e. never_refuses v n (take slots rs) (sym (answer_is v) ∙ e);
        taken_or_40 = λ r. ap (λ (o : Outcome). o.reply) (arrival_is r) ∙ reply_of_lem (ltb max_amount r.amount) r;
        next_bound = k.holding.inside;
        sum_bound = sum_most;
      }
    where
      reply_of_lem : (t : Bool) (r : Record) → (if t then outcome w (refuses 40) else outcome (with_record r w) taken).reply ≡ if t then refuses 40 else taken
      reply_of_lem true r = refl
      reply_of_lem false r = refl

keeps_call : (c : Call) (w : Window) (rs : List Record) → Keeps w rs → Keeps (makes c w).window (taking c rs)
unfolding makes
keeps_call (arrival r) w rs k = keeps_arrival w rs k r
keeps_call (question v) w rs k = keeps_question w rs k v

-- after every series of calls a window keeps the last that arrived
pub keeps_series : (cs : List Call) (w : Window) (rs : List Record) → Keeps w rs → Keeps (series cs w) (arrivals cs rs)
unfolding series arrivals
keeps_series [] w rs k = k
keeps_series (c ∷ cs) w rs k = keeps_series cs (makes c w).window (taking c rs) (keeps_call c w rs k)

-- the theorem: sums, answers and refusals after every series of calls from empty
pub every_series : EverySeries
unfolding EverySeries
every_series cs = right (series cs empty) (arrivals cs []) (keeps_series cs empty [] keeps_empty)
