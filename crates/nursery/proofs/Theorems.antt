-- What holds of the calls for eight houses over whatever is lent: theorems 12 and 13, each a record of claims in the words of specs/, and its
-- proof. The theorems on every register stand in `model`. docs/THEORY.md has the argument.
use mathlib.Core.Path.{◌≡◌}
use mathlib.Core.Logic.{◌≢◌, ◌⊎◌}
use Prim.Native.Nat.{ℕ, ◌≤◌, ◌<◌}
use mathlib.Core.Bool.{true}
use mathlib.Core.Option.{none, some}
use mathlib.Core.List.{List}
use lib.ListN.{length, get_or, set}
use lib.Dec.{ltb}
use Rattle.model.specs.Basics.{max_edges, sum}
use Rattle.model.specs.Graph.{Edge}
use Rattle.model.specs.Register.{Register, edge_refusal}
use Rattle.model.specs.Format.{grow_list, stopped}
use Rattle.model.specs.Queries.{refuses, reported}
use Rattle.model.specs.Tables.{Tables, fits, held}
use Rattle.model.specs.Calls.{Ask, answer}
use Rattle.nursery.specs.Licence.{houses, licence, may_land, reserves}
use Rattle.nursery.specs.Nursery.{edges_in, house_in, limit_in, stored_in}
use Rattle.nursery.specs.Calls.{Call, HouseCall, Lent, all_fit, asks, barred, grows, in_house, lent_slice, removes, scratch_after, step}
use Rattle.nursery.specs.Series.{asked_of}
use Rattle.nursery.specs.Notions.{TurnedAway, Untouched}
use Rattle.nursery.proofs.Within.{never_36}
use Rattle.nursery.proofs.Removal.{KeptFor}
use Rattle.nursery.proofs.InSeries.{NoQuote}
use Rattle.nursery.proofs.Gate.{frame, is_open, question_quiet, step_barred}
use Rattle.nursery.proofs.Damaged.{damaged, grow_21, grow_free, grow_overfull, only_21, overfull_sum}
use Rattle.nursery.proofs.OnLicence.{among, below_share, limit_below, may_land_lem, reserved_after, share_below, turned_away}
use Rattle.nursery.proofs.Sheets.{sheets_stay}
use Rattle.nursery.proofs.Taking.{RemovedAs, refused_for, refused_keeps, reported_as}

-- ---- 12. The licence

-- Document 02, S-10. Where nothing bars a call for a house, the limit of the house says what the paper says: with k pipes, no more than the limit,
-- it may land another exactly if k is below it. Its share is within the limit, and so a house is turned away for the limit, by a list, a quote or
-- a commit, only if it has its share. The sum of the larger of share and pipes never passes 4,096. No call for one house alters another. 21 holds
-- exactly where a house is damaged or the sum passes 4,096, a grow's own house not looked at and as empty. Lists landed without a licence never
-- meet 36.
pub record OnLicence (l : Lent) : Type 0 where
  pub may_land_lem : (h : ℕ) (c : HouseCall) → barred (in_house h c) l ≡ none → (k : ℕ) → k ≤ limit_in h l.nursery
      → may_land h l.nursery.shares (set (edges_in l.nursery) h k) ≡ ltb k (limit_in h l.nursery)
  pub share_within : (h : ℕ) (c : HouseCall) → barred (in_house h c) l ≡ none → (get_or l.nursery.shares h 0 ≤ limit_in h l.nursery) × (limit_in h l.nursery ≤ licence)
  pub below_share : (h : ℕ) (c : HouseCall) → barred (in_house h c) l ≡ none → (r : Register) (e : Edge) → length r.edges < get_or l.nursery.shares h 0
      → (edge_refusal (limit_in h l.nursery) r e ≡ edge_refusal max_edges r e) × (edge_refusal (limit_in h l.nursery) r e ≢ some 36)
      × (edge_refusal (limit_in h l.nursery) r e ≢ some 23)
  -- "a house below its share is never turned away for the limit"
  pub turned_away : (h : ℕ) (c : HouseCall) → TurnedAway (step (in_house h c) l).reply
      → get_or l.nursery.shares h 0 ≤ (stored_in h (step (in_house h c) l).lent.nursery).counts.edges
  -- "the sum never passes 4,096": `AllAtEnd` has it of series
  pub reserved : (h : ℕ) (c : HouseCall) → barred (in_house h c) l ≡ none
      → let n = (step (in_house h c) l).lent.nursery in sum (reserves n.shares (edges_in n)) ≤ licence
  -- "landing in one house alters no sheet of another": nothing of its house is written, ..
  pub others_stay : (h : ℕ) (c : HouseCall) (g : ℕ) → g ≢ h → Untouched g l.nursery (step (in_house h c) l).lent.nursery
  -- .. and its sheet, like every question but a quote, is answered from what was there
  pub sheets_stay : (h : ℕ) (c : HouseCall) → barred (in_house h c) l ≡ none → (g : ℕ) → g < houses → g ≢ h → (scratch : Tables) → fits scratch ≡ true → (q : Ask) → NoQuote q
      → asked_of g scratch (step (in_house h c) l).lent.nursery q ≡ answer q (house_in g l.nursery)
  pub question_stays : (h : ℕ) (q : Ask) → (step (in_house h (asks q)) l).lent.nursery ≡ l.nursery
  -- "its 21 looks at every one": a house that holds no register gives it to every call, but to a grow of that house
  pub damaged : (c : Call) (g : ℕ) → all_fit c l ≡ true → g < houses → ((bs : List ℕ) → c ≢ in_house g (grows bs)) → held (stored_in g l.nursery) ≡ none
      → barred c l ≡ some 21
  -- "and holds too where the larger of share and pipes, summed over them, passes 4,096"
  pub overfull_sum : (c : Call) → all_fit c l ≡ true → ((h : ℕ) (bs : List ℕ) → c ≢ in_house h (grows bs)) → licence < sum (reserves l.nursery.shares (edges_in l.nursery))
      → barred c l ≡ some 21
  -- and nowhere else
  pub only_21 : (c : Call) → ((h : ℕ) (bs : List ℕ) → c ≢ in_house h (grows bs)) → barred c l ≡ some 21
      → ((g : ℕ) × (g < houses) × (held (stored_in g l.nursery) ≡ none)) ⊎ (licence < sum (reserves l.nursery.shares (edges_in l.nursery)))
  -- "A grow counts its own house as empty there, and gives 21 for the rest": for the sum without its house, ..
  pub grow_overfull : (h : ℕ) (bs : List ℕ) → all_fit (in_house h (grows bs)) l ≡ true → licence < sum (reserves l.nursery.shares (set (edges_in l.nursery) h 0))
      → barred (in_house h (grows bs)) l ≡ some 21
  -- .. for this and for another house alone, ..
  pub grow_21 : (h : ℕ) (bs : List ℕ) → barred (in_house h (grows bs)) l ≡ some 21
      → ((g : ℕ) × (g < houses) × (g ≢ h) × (held (stored_in g l.nursery) ≡ none)) ⊎ (licence < sum (reserves l.nursery.shares (set (edges_in l.nursery) h 0)))
  -- .. and nothing bars it otherwise, whatever lies in its own
  pub grow_free : (h : ℕ) (bs : List ℕ) → all_fit (in_house h (grows bs)) l ≡ true → h < houses
      → ((g : ℕ) → g < houses → g ≢ h → held (stored_in g l.nursery) ≢ none)
      → sum (reserves l.nursery.shares (set (edges_in l.nursery) h 0)) ≤ licence → barred (in_house h (grows bs)) l ≡ none
  -- "nothing changed", by 25, 21 and 37
  pub barred_stays : (c : Call) (x : ℕ) → barred c l ≡ some x
      → step c l ≡ record { lent = record { nursery = l.nursery; scratch = scratch_after c l }; slice = lent_slice c; reply = refuses x }
  pub without_licence : (bs : List ℕ) (k : ℕ) → (grow_list bs).stop ≢ stopped k 36

-- ---- 13. Taking pipes out

-- Document 02, S-11. A removal that is reported leaves what landing the remaining pipes in order from empty leaves, one pipe less, counted, and
-- told by exactly the fittings whose tags differ (`RemovedAs`, `TakenOut`, `Report`). Any other is refused for a ground that holds (`KeptFor`), and
-- leaves the houses and the slice as they were.
pub record TakesOut (l : Lent) : Type 0 where
  pub reported_as : (h d : ℕ) (slice : List ℕ) (k : ℕ) → (step (in_house h (removes d slice)) l).reply ≡ reported k
      → RemovedAs h d slice l.nursery (step (in_house h (removes d slice)) l) k
  -- "38 no such pipe, or the count at its largest, after 21, then 9 for a short answer slice"
  pub refused_for : (h d : ℕ) (slice : List ℕ) → ((k : ℕ) → (step (in_house h (removes d slice)) l).reply ≢ reported k)
      → (x : ℕ) × ((step (in_house h (removes d slice)) l).reply ≡ refuses x)
      × ((barred (in_house h (removes d slice)) l ≡ some x) ⊎ ((barred (in_house h (removes d slice)) l ≡ none) × KeptFor (house_in h l.nursery) d (length slice) x))
  -- "nothing changed"
  pub refused_keeps : (h d : ℕ) (slice : List ℕ) → ((k : ℕ) → (step (in_house h (removes d slice)) l).reply ≢ reported k)
      → ((step (in_house h (removes d slice)) l).lent.nursery ≡ l.nursery) × ((step (in_house h (removes d slice)) l).slice ≡ slice)

-- ---- the proofs: the heads and the counts of removals are eight, as their type has it

module _ (l : Lent) (heads : length l.nursery.heads ≡ houses) where
  pub theorem_12 : OnLicence l
  theorem_12 =
      record {
        may_land_lem = λ h c e. may_land_lem l.nursery h (among h c l heads (is_open (in_house h c) l e));
        share_within = λ h c e.
            let a = among h c l heads (is_open (in_house h c) l e) in
            (share_below l.nursery h a, limit_below l.nursery h a);
        below_share = λ h c e. below_share l.nursery h (among h c l heads (is_open (in_house h c) l e));
        turned_away = λ h c. turned_away h c l heads;
        reserved = λ h c. reserved_after h c l heads;
        others_stay = λ h c. frame h c l;
        sheets_stay = λ h c e. sheets_stay h c l heads e;
        question_stays = λ h q. question_quiet h q l;
        damaged = λ c. damaged c l;
        overfull_sum = λ c. overfull_sum c l;
        only_21 = λ c. only_21 c l;
        grow_overfull = λ h bs. grow_overfull h bs l;
        grow_21 = λ h bs. grow_21 h bs l;
        grow_free = λ h bs. grow_free h bs l;
        barred_stays = λ c. step_barred c l;
        without_licence = never_36;
      }

  pub theorem_13 : length l.nursery.removals ≡ houses → TakesOut l
  theorem_13 counts =
      record {
        reported_as = λ h d slice. reported_as h d slice l heads counts;
        refused_for = λ h d slice. refused_for h d slice l;
        refused_keeps = λ h d slice. refused_keeps h d slice l;
      }
