-- Document 01, "What may be called" and the order of refusals, for eight houses and with every call of document 02: what each call leaves and
-- answers, whatever it is lent.
use Rattle.std.specs.Prelude.{ℕ, ◌+◌, ◌*◌, Bool, true, false, not, ◌&&◌, ◌||◌, List, [], ◌∷◌, map, length, set, eqb, ltb, if◌then◌else◌}
use Rattle.std.proofs.Math.Option.{Option, none, some}
use Rattle.model.specs.Basics.{in_front, sum, up_to}
use Rattle.model.specs.Graph.{Edge}
use Rattle.model.specs.Register.{Register, Landed, Quote, empty, landed, refused, commit}
use Rattle.model.specs.Format.{Read, land_list}
use Rattle.model.specs.Queries.{OpenSheet, Reply, read, committed, reported, allotted, refuses}
use Rattle.model.specs.Tables.{Tables, fits, sizes, right_sizes, eq_list, cleared, held}
use Rattle.model.specs.Calls.{Ask, House, answer, lent_to, finding, finding_at, measuring, sheeting, writing, quoting, opening, fetching}
use Rattle.nursery.specs.Licence.{houses, licence, overfull}
use Rattle.nursery.specs.Removal.{Removed, removed, kept_with, remove, change_numbers}
use Rattle.nursery.specs.Nursery.{Nursery, stored_in, edges_in, vertices_in, house_in, put_in, with_shares}

-- the calls for a house, with a list's bytes, a quote, an edge's number and the lent slice, or a question
pub data HouseCall : Type 0 where
  grows : List ℕ → HouseCall
  lands : List ℕ → HouseCall
  commits : Quote → HouseCall
  removes : ℕ → List ℕ → HouseCall
  asks : Ask → HouseCall

abbrev pub finds : ℕ → HouseCall
finds label = asks (finding label)

abbrev pub finds_at : ℕ → HouseCall
finds_at v = asks (finding_at v)

abbrev pub measures : ℕ → ℕ → HouseCall
measures v w = asks (measuring v w)

abbrev pub sheets : List ℕ → HouseCall
sheets slice = asks (sheeting slice)

abbrev pub writes : List ℕ → HouseCall
writes slice = asks (writing slice)

abbrev pub quotes : Edge → HouseCall
quotes e = asks (quoting e)

abbrev pub opens : HouseCall
opens = asks opening

abbrev pub fetches : OpenSheet → HouseCall
fetches s = asks (fetching s)

-- a call for the house of this number; or the shares: "all eight are set at once"
pub data Call : Type 0 where
  in_house : ℕ → HouseCall → Call
  sets_shares : List ℕ → Call

-- ---- what a call does to the house that it finds

-- what it leaves there and in the lent slice (empty for a call without one), and what it answers
pub record Effect : Type 0 where
  pub leaves : Register
  pub removals : ℕ
  pub slice : List ℕ
  pub reply : Reply

unfoldable pub read_effect : ℕ → Read → Effect
read_effect removals d = record { leaves = d.register; removals = removals; slice = []; reply = read d.stop }

-- S-5: "does exactly that"; a refusal leaves the register
unfoldable pub commit_effect : House → Landed → Effect
commit_effect s (landed r) = record { leaves = r; removals = s.removals; slice = []; reply = committed }
commit_effect s (refused x) = record { leaves = s.register; removals = s.removals; slice = []; reply = refuses x }

-- S-11: a removal is counted and reported; a refusal leaves all as it was: "nothing changed"
unfoldable pub remove_effect : House → List ℕ → Removed → Effect
remove_effect s slice (removed r cs) =
    record { leaves = r; removals = s.removals + 1; slice = in_front (change_numbers cs) slice; reply = reported (length cs) }
remove_effect s slice (kept_with x) = record { leaves = s.register; removals = s.removals; slice = slice; reply = refuses x }

-- "Grow: cleared tables and a list", with a count of removals that is "0 when cleared". "Land: a register and a list."
unfoldable pub effect : HouseCall → House → Effect
effect (grows bs) s = read_effect 0 (land_list s.limit empty bs)
effect (lands bs) s = read_effect s.removals (land_list s.limit s.register bs)
effect (commits q) s = commit_effect s (commit s.limit s.register q)
effect (removes d slice) s = remove_effect s slice (remove s d (length slice))
effect (asks q) s = let a = answer q s in record { leaves = s.register; removals = s.removals; slice = a.slice; reply = a.reply }

-- ---- what is lent, and the refusals before a call: 25, then 21, then 37

-- all houses, and one set of scratch tables
pub record Lent : Type 0 where
  pub nursery : Nursery
  pub scratch : Tables

-- 25 holds of no table of the eight houses, nor of their shares
unfoldable pub nursery_fits : Nursery → Bool
nursery_fits n = eq_list (sizes n.tables) (map (λ (k : ℕ). houses * k) right_sizes) && eqb (length n.shares) houses

-- nor of the shares that a call brings
unfoldable pub brings_eight : Call → Bool
brings_eight (in_house h c) = true
brings_eight (sets_shares shares) = eqb (length shares) houses

unfoldable pub all_fit : Call → Lent → Bool
all_fit c l = nursery_fits l.nursery && fits l.scratch && brings_eight c

-- "A grow counts its own house as empty there, and gives 21 for the rest": the house that a call grows
unfoldable pub grown_by : HouseCall → ℕ → Option ℕ
grown_by (grows bs) h = some h
grown_by (lands bs) h = none
grown_by (commits q) h = none
grown_by (removes d slice) h = none
grown_by (asks q) h = none

unfoldable pub own_of : Call → Option ℕ
own_of (in_house h c) = grown_by c h
own_of (sets_shares shares) = none

unfoldable pub is_own : Option ℕ → ℕ → Bool
is_own none h = false
is_own (some g) h = eqb h g

-- does one of some houses, but for a grow's own, hold no register?
unfoldable pub any_damaged : Option ℕ → Nursery → List ℕ → Bool
any_damaged own n [] = false
any_damaged own n (h ∷ hs) =
    elim (is_own own h) [
      | true ↦ any_damaged own n hs
      | false ↦ elim (held (stored_in h n)) [ some r ↦ any_damaged own n hs | none ↦ true ]
    ]

-- the edges of all houses, that of a grow as empty
unfoldable pub edges_but : Option ℕ → List ℕ → List ℕ
edges_but none edges = edges
edges_but (some h) edges = set edges h 0

-- "its 21 looks at every one, and holds too where the larger of share and pipes, summed over them, passes 4,096"
unfoldable pub not_grown : Option ℕ → Nursery → Bool
not_grown own n = any_damaged own n (up_to houses) || overfull n.shares (edges_but own (edges_in n))

-- is one of some numbers not 0?
unfoldable pub any_some : List ℕ → Bool
any_some [] = false
any_some (x ∷ xs) = not (eqb x 0) || any_some xs

-- "37 a house number above 7 or, when shares are set, a sum above 4,096 or a house not empty", that is, with vertices
unfoldable pub out_of_place : Call → List ℕ → Bool
out_of_place (in_house h c) vertices = not (ltb h houses)
out_of_place (sets_shares shares) vertices = ltb licence (sum shares) || any_some vertices

-- "37 .., next after 21, before 32 and 33"
unfoldable pub barred : Call → Lent → Option ℕ
barred c l =
    if not (all_fit c l) then some 25
    else if not_grown (own_of c) l.nursery then some 21
    else if out_of_place c (vertices_in l.nursery) then some 37
    else none

-- ---- a call over what it is lent

-- what a call leaves in what it is lent, and what it answers
pub record Outcome : Type 0 where
  pub lent : Lent
  pub slice : List ℕ
  pub reply : Reply

-- the slice that a call is lent
unfoldable pub own_slice : HouseCall → List ℕ
own_slice (grows bs) = []
own_slice (lands bs) = []
own_slice (commits q) = []
own_slice (removes d slice) = slice
own_slice (asks q) = lent_to q

unfoldable pub lent_slice : Call → List ℕ
lent_slice (in_house h c) = own_slice c
lent_slice (sets_shares shares) = []

-- where nothing bars it, a call for a house has its effect there, and shares are put in place of the old ones; "scratch ends all zero"
unfoldable pub does : Call → Nursery → Outcome
does (in_house h c) n =
    let e = effect c (house_in h n) in
    record { lent = record { nursery = put_in h e.leaves e.removals n; scratch = cleared }; slice = e.slice; reply = e.reply }
does (sets_shares shares) n =
    record { lent = record { nursery = with_shares shares n; scratch = cleared }; slice = []; reply = allotted }

-- "25 writes nothing. Otherwise scratch ends all zero."
unfoldable pub scratch_after : Call → Lent → Tables
scratch_after c l = if all_fit c l then cleared else l.scratch

-- its effect; or 25, 21 or 37, with the houses, the shares and the slice as they were
unfoldable pub step : Call → Lent → Outcome
step c l =
    elim (barred c l) [
      | none ↦ does c l.nursery
      | some x ↦
          record { lent = record { nursery = l.nursery; scratch = scratch_after c l }; slice = lent_slice c; reply = refuses x }
    ]
