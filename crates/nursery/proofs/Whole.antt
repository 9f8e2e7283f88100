-- Demand 3, whole: for every series of calls for eight houses, removals and shares among them, of each house.
use mathlib.Core.Path.{◌≡◌, sym, ap, ◌∙◌, subst}
use Prim.Native.Nat.{ℕ, ◌≤◌, ◌<◌}
use native.Mathlib.Omega.{arith}
use mathlib.Core.Bool.{true}
use mathlib.Core.List.{List, [], ◌∷◌}
use lib.ListN.{length}
use borrow.Author.Tests.{lt-ltb}
use Rattle.model.specs.Basics.{sum}
use Rattle.model.specs.Register.{Register}
use Rattle.model.specs.Tables.{Stored, Tables, counts_of, fits, stored_of}
use Rattle.model.specs.Calls.{Ask, answer}
use Rattle.model.specs.Series.{Landing}
use Rattle.theory.proofs.Series.Compared.{compared, few_relabelled}
use Rattle.theory.proofs.Series.Landings.{LeftBy, left_empty}
use Rattle.theory.proofs.Series.Told.{Told, history_told}
use Rattle.nursery.specs.Licence.{houses, licence, reserves}
use Rattle.nursery.specs.Nursery.{Nursery, edges_in, no_houses, stored_in}
use Rattle.nursery.specs.Calls.{asks, brings_eight, does, effect, in_house, out_of_place, step}
use Rattle.nursery.specs.Series.{AllAtEnd, AtEnd, Demand3, Made, Site, accepts_made, after, after_call, asked_of, empty_site, house_at, makes, register_at, series, since}
use Rattle.nursery.proofs.Licence.{edges_most}
use Rattle.nursery.proofs.State.{Holds, Sound, as_many, barred_is, edges_are, empty_register, held_is, holds_empty, house_is, removals_is, sound_empty, stored_is}
use Rattle.nursery.proofs.Kept.{call_does}

-- ---- a series

-- eight houses that a nursery holds stay sound, and it holds what the calls alone settle
pub record SeriesDoes (ms : List Made) (n : Nursery) (s : Site) : Type 0 where
  pub sound : Sound (after ms s)
  pub holds : Holds (series ms n) (after ms s)
  pub left : (h : ℕ) → h < houses → (ls : List Landing) → LeftBy ls (register_at h s) → LeftBy (since h ms s ls) (register_at h (after ms s))

pub series_does : (ms : List Made) (n : Nursery) (s : Site) → Sound s → Holds n s → SeriesDoes ms n s
unfolding after series since
series_does [] n s o k = record { sound = o; holds = k; left = λ h l ls b. b }
series_does (m ∷ ms) n s o k =
    let d = call_does n s o k m in
    let i = series_does ms (makes m n).lent.nursery (after_call m s) d.sound d.holds in
    record { sound = i.sound; holds = i.holds; left = λ h l ls b. i.left h l (accepts_made h m s ls) (d.left h l ls b) }

-- from eight cleared houses on
pub from_start : (ms : List Made) → SeriesDoes ms no_houses empty_site
from_start ms = series_does ms no_houses empty_site sound_empty holds_empty

pub left_in : (ms : List Made) (h : ℕ) → h < houses → LeftBy (since h ms empty_site []) (register_at h (after ms empty_site))
left_in ms h l = (from_start ms).left h l [] (subst (LeftBy []) (sym (empty_register h l)) left_empty)

pub told_by : (r : Register) (ls : List Landing) → LeftBy ls r → Told r ls
told_by r ls b = subst (Told r) b.history_is (history_told r b.reachable)

-- ---- the claim

module _ (n : Nursery) (s : Site) (o : Sound s) (k : Holds n s) where
  -- a question about a house
  pub asked_is : (h : ℕ) → h < houses → (scratch : Tables) → fits scratch ≡ true → (q : Ask) → asked_of h scratch n q ≡ answer q (house_at h s)
  unfolding asked_of makes step brings_eight out_of_place does effect
  asked_is h l scratch f q = rw (barred_is n s o k (in_house h (asks q)) scratch, f, lt-ltb h houses l, step) (rw (house_is n s o k h l))

  house_at_end : (h : ℕ) → h < houses → (ls : List Landing) → LeftBy ls (register_at h s) → AtEnd h n s ls
  unfolding stored_of counts_of house_at
  house_at_end h l ls b =
      let r = register_at h s in
      let t = told_by r ls b in
      let i = stored_is n s k h l in
      let total : (stored_in h n).counts.relabellings ≡ r.relabellings = ap (λ (x : Stored). x.counts.relabellings) i in
      record {
        contents = i;
        removals = removals_is n s k h;
        accepted = t.edges_are;
        total = total ∙ t.total_is;
        bound = λ g. omega (arith, total, few_relabelled r b.reachable ls t);
        compared = λ scratch ok. compared (house_at h s) b.reachable (asked_of h scratch n) (asked_is h l scratch ok) ls t;
        holds = held_is n s o k h l;
      }

  all_at_end : AllAtEnd n s
  all_at_end =
      let w : sum (reserves n.shares (edges_in n)) ≤ licence = rw (edges_are n s k, k.shares_are) o.within in
      let e : length n.shares ≡ length (edges_in n) = rw (edges_are n s k, k.shares_are) (as_many s o) in
      record {
        shares = k.shares_are;
        reserved = w;
        within = omega (arith, w, edges_most n.shares (edges_in n) e);
        answers = λ m. (call_does n s o k m).reply_is;
      }

pub demand3 : Demand3
unfolding Demand3
demand3 ms =
    let d = from_start ms in
    record {
      each_house = λ h l. house_at_end (series ms no_houses) (after ms empty_site) d.sound d.holds h l (since h ms empty_site []) (left_in ms h l);
      all_houses = all_at_end (series ms no_houses) (after ms empty_site) d.sound d.holds;
    }
