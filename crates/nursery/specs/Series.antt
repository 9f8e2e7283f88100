-- Document 01, "What demand 3 speaks of", with document 02's S-5, S-10 and S-11: one series of calls for eight houses, what the calls
-- alone settle, and the claim for each house.
use Rattle.std.specs.Prelude.{◌≡◌, ℕ, ◌*◌, ◌≤◌, ◌<◌, Bool, true, not, ◌&&◌, List, [], ◌∷◌, ◌++◌, map, length, get_or, set, replicate, eqb, if◌then◌else◌}
use Rattle.std.proofs.Math.Option.{some}
use Rattle.model.specs.Basics.{sum, floor_log}
use Rattle.model.specs.Register.{Register, empty, commit}
use Rattle.model.specs.Queries.{Reply, allotted, refuses}
use Rattle.model.specs.Tables.{Tables, fits, held, stored_of}
use Rattle.model.specs.Calls.{Answer, Ask, House}
use Rattle.model.specs.Series.{Landing, landed_by, committed_by, landed_edges, relabelled_by, Compared}
use Rattle.nursery.specs.Licence.{houses, licence, reserves, limit_of}
use Rattle.nursery.specs.Removal.{Removed, removed, kept_with, remove, without, landed_anew}
use Rattle.nursery.specs.Nursery.{Nursery, stored_in, removals_in, edges_in, no_houses}
use Rattle.nursery.specs.Calls.{HouseCall, grows, lands, commits, removes, asks, Call, in_house, sets_shares, effect, brings_eight, out_of_place, Outcome, step}

-- ---- series

-- a call, and the scratch lent to it
pub record Made : Type 0 where
  pub call : Call
  pub scratch : Tables

-- the call on eight houses
unfoldable pub makes : Made → Nursery → Outcome
makes m n = step m.call (record { nursery = n; scratch = m.scratch })

-- "each gets the tables and head that the last one left, and nothing else writes them meanwhile"; "A series starts from cleared tables of the
-- right sizes, head included", that is, from `no_houses`
unfoldable pub series : List Made → Nursery → Nursery
series [] n = n
series (m ∷ ms) n = series ms (makes m n).lent.nursery

-- ---- what the calls alone settle, since 21 holds in no series

-- the registers of the houses, their counts of removals, and the shares
pub record Site : Type 0 where
  pub registers : List Register
  pub removals : List ℕ
  pub shares : List ℕ

unfoldable pub register_at : ℕ → Site → Register
register_at h s = get_or s.registers h empty

unfoldable pub removals_at : ℕ → Site → ℕ
removals_at h s = get_or s.removals h 0

unfoldable pub edges_at : Site → List ℕ
edges_at s = map (λ (r : Register). length r.edges) s.registers

unfoldable pub vertices_at : Site → List ℕ
vertices_at s = map (λ (r : Register). r.vertices) s.registers

unfoldable pub limit_at : ℕ → Site → ℕ
limit_at h s = limit_of h s.shares (edges_at s)

unfoldable pub house_at : ℕ → Site → House
house_at h s = record { register = register_at h s; limit = limit_at h s; removals = removals_at h s }

unfoldable pub put_at : ℕ → Register → ℕ → Site → Site
put_at h r removals s = record { registers = set s.registers h r; removals = set s.removals h removals; shares = s.shares }

unfoldable pub shared_out : List ℕ → Site → Site
shared_out shares s = record { registers = s.registers; removals = s.removals; shares = shares }

unfoldable pub empty_site : Site
empty_site = record { registers = replicate houses empty; removals = replicate houses 0; shares = replicate houses 0 }

-- 25 does not hold of what the call brings, nor does 37
unfoldable pub made_fits : Made → Bool
made_fits m = fits m.scratch && brings_eight m.call

unfoldable pub admitted : Made → Site → Bool
admitted m s = made_fits m && not (out_of_place m.call (vertices_at s))

-- what such a call makes of the houses
unfoldable pub settles : Call → Site → Site
settles (in_house h c) s = let e = effect c (house_at h s) in put_at h e.leaves e.removals s
settles (sets_shares shares) s = shared_out shares s

unfoldable pub after_call : Made → Site → Site
after_call m s = if admitted m s then settles m.call s else s

unfoldable pub after : List Made → Site → Site
after [] s = s
after (m ∷ ms) s = after ms (after_call m s)

-- what a call is answered
unfoldable pub answered : Call → Site → Reply
answered (in_house h c) s = (effect c (house_at h s)).reply
answered (sets_shares shares) s = allotted

unfoldable pub reply_to : Made → Site → Reply
reply_to m s =
    if not (made_fits m) then refuses 25
    else if out_of_place m.call (vertices_at s) then refuses 37
    else answered m.call s

-- ---- the edges accepted since the last clearing of a house

-- S-11: "one not refused stands there as a clearing, so that until the next clearing pipes and re-hangings are counted over that landing and
-- what follows it, without the listed changes"
unfoldable pub accepts_rest : House → ℕ → List Landing → Removed → List Landing
accepts_rest s d ls (removed r cs) = landed_anew s.register.vertices (without d s.register.edges)
accepts_rest s d ls (kept_with x) = ls

-- what a call for the house that is not refused with 25, 21 or 37 makes of the edges accepted so far: a clearing forgets them
unfoldable pub accepts : HouseCall → House → List Landing → List Landing
accepts (grows bs) s ls = landed_by s.limit empty bs
accepts (lands bs) s ls = ls ++ landed_by s.limit s.register bs
accepts (commits q) s ls = ls ++ committed_by s.register q.asked (commit s.limit s.register q)
accepts (removes d slice) s ls = accepts_rest s d ls (remove s d (length slice))
accepts (asks q) s ls = ls

-- the same of house h, for a call for any house: it alters no other
unfoldable pub accepts_in : ℕ → Call → Site → List Landing → List Landing
accepts_in h (in_house g c) s ls = if eqb h g then accepts c (house_at h s) ls else ls
accepts_in h (sets_shares shares) s ls = ls

unfoldable pub accepts_made : ℕ → Made → Site → List Landing → List Landing
accepts_made h m s ls = if admitted m s then accepts_in h m.call s ls else ls

-- "The last clearing is the last grow not refused with 25", 21 or 37, or the last removal not refused, "or else the start": the edges
-- accepted since then
unfoldable pub since : ℕ → List Made → Site → List Landing → List Landing
since h [] s ls = ls
since h (m ∷ ms) s ls = since h ms (after_call m s) (accepts_made h m s ls)

-- ---- the claim

-- what a question about house h is answered, with this scratch
unfoldable pub asked_of : ℕ → Tables → Nursery → Ask → Answer
asked_of h scratch n q =
    let o = makes (record { call = in_house h (asks q); scratch = scratch }) n in
    record { slice = o.slice; reply = o.reply }

-- What holds of house h at the end of a series. `n` is what the series left; `s` and `ls` are the houses, and the edges accepted since the last
-- clearing of house h, as the calls alone settle them. "Each house separately has its own re-hanging bound."
pub record AtEnd (h : ℕ) (n : Nursery) (s : Site) (ls : List Landing) : Type 0 where
  pub contents : stored_in h n ≡ stored_of (register_at h s)
  pub removals : removals_in h n ≡ removals_at h s
  pub accepted : landed_edges ls ≡ (register_at h s).edges
  pub total : (stored_in h n).counts.relabellings ≡ relabelled_by ls
  pub bound : 1 ≤ length ls → (stored_in h n).counts.relabellings ≤ length ls * floor_log (length ls)
  -- "After the series, with scratch of the right sizes"
  pub compared : (scratch : Tables) → fits scratch ≡ true → Compared (asked_of h scratch n) (register_at h s) ls
  -- "Refusal 21 holds in no series": nor does it of any call more
  pub holds : held (stored_in h n) ≡ some (register_at h s)

-- and of all houses: "the sum never passes 4,096", which is why 21 does not hold for the sum either
pub record AllAtEnd (n : Nursery) (s : Site) : Type 0 where
  pub shares : n.shares ≡ s.shares
  pub reserved : sum (reserves n.shares (edges_in n)) ≤ licence
  pub within : sum (edges_in n) ≤ licence
  pub answers : (m : Made) → (makes m n).reply ≡ reply_to m s

pub record SeriesEnds (ms : List Made) : Type 0 where
  pub each_house : (h : ℕ) → h < houses → AtEnd h (series ms no_houses) (after ms empty_site) (since h ms empty_site [])
  pub all_houses : AllAtEnd (series ms no_houses) (after ms empty_site)

-- Demand 3, as a type: a proof of it is the theorem.
unfoldable pub Demand3 : Type 0
Demand3 = (ms : List Made) → SeriesEnds ms
