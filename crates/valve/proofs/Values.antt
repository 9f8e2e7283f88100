-- The worked examples: computed from the definitions, those on windows by the theorem on series where it serves.
use mathlib.Core.Path.{◌≡◌, refl, sym, ap, ◌∙◌}
use Prim.Native.Nat.{ℕ}
use native.Mathlib.Omega.{arith}
use mathlib.Core.Bool.{true, false}
use mathlib.Core.List.{List, [], ◌∷◌}
use lib.ListN.{replicate}
use Rattle.valve.specs.Numbers.{slots}
use Rattle.valve.specs.Window.{record_of, total, Window, window, empty, before, newest, records_of, sizes_fit, all_within, held}
use Rattle.valve.specs.Valve.{recipe_is, older, refuses, at_valve}
use Rattle.valve.specs.Calls.{Outcome, gated, arrives, asks}
use Rattle.valve.specs.Series.{Call, series, taking, arrivals, latest, ValveIsRight, EverySeries}
use Rattle.valve.specs.Values.{three, arriving, arrived, lasting, pushing, standing, stopping, full, Table}
use Rattle.valve.proofs.LoopLaws.{within_not, held_past, held_too_much, held_sum}
use Rattle.valve.proofs.CallLaws.{gate_25, gate_21, arrive_21, ask_refused}
use Rattle.valve.proofs.Arrivals.{blank, newest_zeros, zeros_within, zeros_sum, every_series}

after_all : (cs : List Call) → ValveIsRight (series cs empty) (arrivals cs [])
unfolding EverySeries
after_all cs = every_series cs

after_three : ValveIsRight arrived three
unfolding arrived three arriving arrivals taking
after_three = after_all arriving

-- ---- past the 1,440th record

lasts : (asks 1439 (series lasting empty)).reply ≡ recipe_is 9
unfolding lasting arrivals taking latest at_valve
lasts = (after_all lasting).answer 1439

lasts_sum : (series lasting empty).sum ≡ 1444
unfolding lasting arrivals taking latest total
lasts_sum = (after_all lasting).sum_latest

pushed_out : (asks 1440 (series pushing empty)).reply ≡ older
unfolding pushing arrivals taking latest at_valve
pushed_out = (after_all pushing).answer 1440

pushed_sum : (series pushing empty).sum ≡ 1440
unfolding pushing arrivals taking latest total
pushed_sum = (after_all pushing).sum_latest

pushed_oldest : (asks 1439 (series pushing empty)).reply ≡ recipe_is 7
unfolding pushing arrivals taking latest at_valve
pushed_oldest = (after_all pushing).answer 1439

stands : (asks 4 (series standing empty)).reply ≡ recipe_is 9
unfolding standing arrivals taking latest at_valve
stands = (after_all standing).answer 4

stood_out : (asks 0 (series stopping empty)).reply ≡ older
unfolding stopping arrivals taking latest at_valve
stood_out = (after_all stopping).answer 0

full_asked : (asks 1439999999 full).reply ≡ recipe_is 3
unfolding total before newest records_of sizes_fit all_within held at_valve asks gated full
full_asked = refl

-- ---- 21 and 25

reply_21 : (v : ℕ) (w : Window) → sizes_fit w.recipes w.amounts ≡ true → held w ≡ false → (asks v w).reply ≡ refuses 21
reply_21 v w f h = ap (λ (o : Outcome). o.reply) (sym (ask_refused v w 21 (gate_21 w f h)))

zeros : Window
zeros = window (replicate slots 0) (replicate slots 0) 0 1

zero_records : records_of zeros ≡ replicate slots blank
unfolding records_of zeros
zero_records = newest_zeros slots slots 0

wrong_sum : (asks 0 (window (replicate slots 0) (replicate slots 0) 0 1)).reply ≡ refuses 21
unfolding sizes_fit zeros
wrong_sum =
    reply_21 0 zeros refl
    (sym (held_sum zeros 0 (omega arith) (ap all_within zero_records ∙ zeros_within slots) (sym (ap total zero_records ∙ zeros_sum slots))))

no_slot : (asks 0 (window (replicate slots 0) (replicate slots 0) 1440 0)).reply ≡ refuses 21
unfolding sizes_fit
no_slot = reply_21 0 (window (replicate slots 0) (replicate slots 0) 1440 0) refl (sym (held_past (window (replicate slots 0) (replicate slots 0) 1440 0) (omega arith)))

above_one : Window
above_one = window (replicate slots 0) (1000001 ∷ replicate 1439 0) 1 1000001

above_not : all_within (records_of above_one) ≡ false
unfolding records_of above_one before
above_not = within_not (replicate slots 0) (1000001 ∷ replicate 1439 0) slots 1439 1 0 1000001 refl refl refl (omega arith)

above : (arrives (record_of 1 1000001) (window (replicate slots 0) (1000001 ∷ replicate 1439 0) 1 1000001)).reply ≡ refuses 21
unfolding sizes_fit above_one
above =
    ap (λ (o : Outcome). o.reply)
    (sym (arrive_21 (record_of 1 1000001) above_one refl (sym (held_too_much above_one (omega arith) above_not))))

short : (asks 0 (window (replicate 1439 0) (replicate slots 0) 0 1)).reply ≡ refuses 25
unfolding sizes_fit
short = ap (λ (o : Outcome). o.reply) (sym (ask_refused 0 (window (replicate 1439 0) (replicate slots 0) 0 1) 25 (gate_25 (window (replicate 1439 0) (replicate slots 0) 0 1) refl)))

pub values : Table
unfolding three at_valve total latest
values =
    record {
      first = refl;
      tenth = refl;
      eleventh = refl;
      fifteenth = refl;
      past = refl;
      sum = after_three.sum_latest;
      asked = after_three.answer 10;
      asked_last = after_three.answer 14;
      asked_past = after_three.answer 15;
      asked_far = after_three.answer 4294967295;
      lasts = lasts;
      lasts_sum = lasts_sum;
      pushed_out = pushed_out;
      pushed_sum = pushed_sum;
      pushed_oldest = pushed_oldest;
      stands = stands;
      stood_out = stood_out;
      largest = after_three.taken_or_40 (record_of 1 1000000);
      too_much = after_three.taken_or_40 (record_of 1 1000001);
      full_asked = full_asked;
      wrong_sum = wrong_sum;
      no_slot = no_slot;
      above = above;
      short = short;
    }
