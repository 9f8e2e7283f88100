-- Document 02, S-10, over whatever is lent: the limit of a house says what the paper says; who is turned away for it has its share; and the sum
-- stays within 4,096. The heads are eight, as their type has it.
use mathlib.Core.Path.{◌≡◌, refl, sym, ap, ◌∙◌, subst}
use mathlib.Core.Logic.{◌≢◌, ◌⊎◌, inl, inr}
use Prim.Native.Nat.{ℕ, zero, suc, ◌≤◌, ◌<◌}
use native.Mathlib.Omega.{arith}
use mathlib.Core.Bool.{not, ◌&&◌}
use mathlib.Core.Option.{Option, none, some}
use mathlib.Core.List.{List, [], ◌∷◌, map}
use lib.ListN.{length, get_or, set, length-map, length-set, get_or-map}
use lib.Seq.{get_or-set_same}
use lib.Dec.{ltb}
use borrow.Author.Tests.{le-ltb}
use Rattle.model.specs.Basics.{max_edges, sum, up_to}
use Rattle.model.specs.Graph.{Edge}
use Rattle.model.specs.Labels.{vertex_on_ring}
use Rattle.model.specs.Register.{Landed, Quote, Register, commit, edge_refusal, empty, label_of, landed, quote, refused}
use Rattle.model.specs.Format.{Stop, land_list, stopped, whole, written}
use Rattle.model.specs.Queries.{OpenSheet, Reply, find, find_at, found_at, measure, refuses, sheet_numbers, vertex_with}
use Rattle.model.specs.Opened.{fetch, fetch_line, is_beyond, is_ended, line_at, opened_lines}
use Rattle.model.specs.Tables.{Counts, Stored, counts_of, held, no_counts, stored_of}
use Rattle.model.specs.Calls.{Answer, Ask, House, answer, answers, fills, finding, finding_at, measuring, quoting, opening, fetching, sheeting, writing}
use Rattle.model.specs.Notions.{Reachable, history}
use Rattle.model.proofs.Basics.Booleans.{if_either}
use Rattle.theory.proofs.Registers.OnlyHeld.{only_held}
use Rattle.model.proofs.Registers.Quotes.{commit_differs, commit_same, made_now, terms_by, terms_for}
use Rattle.theory.proofs.Registers.Within.{refusal_below}
use Rattle.theory.proofs.Registers.Reachable.{founded}
use Rattle.nursery.specs.Licence.{houses, licence, may_land, overfull, reserves}
use Rattle.nursery.specs.Removal.{Removed, kept_with, remove, removed}
use Rattle.nursery.specs.Nursery.{Nursery, edges_in, house_in, limit_in, put_in, register_in, stored_in}
use Rattle.nursery.specs.Calls.{HouseCall, Lent, Outcome, asks, barred, commit_effect, commits, does, edges_but, effect, grown_by, grows, in_house, is_own, lands, own_of, read_effect, remove_effect, removes, step}
use Rattle.nursery.specs.Notions.{ForLimit, LimitDeclines, LimitStops, TurnedAway}
use Rattle.nursery.proofs.Licence.{limit_is, limit_most, limit_own, own_within, share_within, within_limit, without_own}
use Rattle.nursery.proofs.Within.{Full, FullAt, edge_full, edge_refused, list_bounded}
use Rattle.nursery.proofs.Removal.{KeptFor, RemovalIs, no_more_removals, no_room, no_such_edge, removal_is}
use Rattle.nursery.proofs.Effects.{does_house, grown_few}
use Rattle.nursery.proofs.Gate.{Open, barred_by, is_open, open_inside, register_reachable, step_barred, step_open}

-- ---- a house among eight, and the sum with it as empty

pub record Among (h : ℕ) (n : Nursery) : Type 0 where
  pub inside : h < houses
  pub eight_shares : length n.shares ≡ houses
  pub eight_edges : length (edges_in n) ≡ houses
  pub others_within : sum (reserves n.shares (set (edges_in n) h 0)) ≤ licence

edges_eight : (n : Nursery) → length n.heads ≡ houses → length (edges_in n) ≡ houses
unfolding edges_in
edges_eight n e = length-map n.heads (λ (c : Counts). c.edges) ∙ e

-- there are as many shares as numbers of edges, and one is that of the house
pub as_many : (n : Nursery) (h : ℕ) → Among h n → length n.shares ≡ length (edges_in n)
as_many n h a = a.eight_shares ∙ sym a.eight_edges

pub below_eight : (n : Nursery) (h : ℕ) → Among h n → h < length n.shares
below_eight n h a = omega (arith, a.inside, a.eight_shares)

-- a grow counts its house as empty, and for any other call the sum falls if it is
empty_within : (h : ℕ) (c : HouseCall) (n : Nursery) → h < length n.shares → length n.shares ≡ length (edges_in n)
    → sum (reserves n.shares (edges_but (grown_by c h) (edges_in n))) ≤ licence → sum (reserves n.shares (set (edges_in n) h 0)) ≤ licence
unfolding grown_by edges_but
empty_within h (grows bs) n l e w = w
empty_within h (lands bs) n l e w = omega (arith, w, without_own h n.shares (edges_in n) e l)
empty_within h (commits q) n l e w = omega (arith, w, without_own h n.shares (edges_in n) e l)
empty_within h (removes d slice) n l e w = omega (arith, w, without_own h n.shares (edges_in n) e l)
empty_within h (asks q) n l e w = omega (arith, w, without_own h n.shares (edges_in n) e l)

-- a call for a house that nothing bars shows all this of it
pub among : (h : ℕ) (c : HouseCall) (l : Lent) → length l.nursery.heads ≡ houses → Open (in_house h c) l → Among h l.nursery
unfolding own_of
among h c l e o =
    let n = l.nursery in
    let m = edges_eight n e in
    let i = open_inside h c l o in
    record {
      inside = i;
      eight_shares = o.eight_shares;
      eight_edges = m;
      others_within = empty_within h c n (omega (arith, i, o.eight_shares)) (o.eight_shares ∙ sym m) o.within;
    }

-- ---- the limit

module _ (n : Nursery) (h : ℕ) (a : Among h n) where
  -- a guaranteed share is within it, and it is within the licence
  pub share_below : get_or n.shares h 0 ≤ limit_in h n
  unfolding limit_in
  share_below = share_within h n.shares (edges_in n) (as_many n h a) (below_eight n h a) a.others_within

  pub limit_below : limit_in h n ≤ licence
  unfolding limit_in
  limit_below = limit_most h n.shares (edges_in n) (as_many n h a) (below_eight n h a)

  -- "A house may land a pipe if ..": with so many edges as it has at each record of a list, up to its limit
  pub may_land_lem : (k : ℕ) → k ≤ limit_in h n → may_land h n.shares (set (edges_in n) h k) ≡ ltb k (limit_in h n)
  unfolding limit_in overfull
  may_land_lem k b =
      let e = as_many n h a in
      let i = below_eight n h a in
      let long : length n.shares ≡ length (set (edges_in n) h k) = e ∙ sym (length-set (edges_in n) h k) in
      let w = within_limit h n.shares (edges_in n) e i k a.others_within b in
      let own : get_or (set (edges_in n) h k) h 0 ≡ k = get_or-set_same (edges_in n) h k 0 (omega (arith, a.inside, a.eight_edges)) in
      limit_is h n.shares (set (edges_in n) h k) long i (le-ltb licence (sum (reserves n.shares (set (edges_in n) h k))) w)
      ∙ rw (own, limit_own h n.shares (edges_in n) e i k)

  -- "a house below its share is never turned away for the limit": of an edge then neither 36 nor 23 holds, and its other refusals are as ever
  pub below_share : (r : Register) (e : Edge) → length r.edges < get_or n.shares h 0
      → (edge_refusal (limit_in h n) r e ≡ edge_refusal max_edges r e) × (edge_refusal (limit_in h n) r e ≢ some 36) × (edge_refusal (limit_in h n) r e ≢ some 23)
  below_share r e b = (
    refusal_below (limit_in h n) r e (omega (arith, b, share_below)),
    λ z. omega (arith, (edge_full (limit_in h n) r e 36 z).0 refl, b, share_below),
    λ z. omega (arith, (edge_full (limit_in h n) r e 23 z).1 refl, b, share_below, limit_below),
  )

  -- who is turned away has its share
  has_share : (edges x : ℕ) → ForLimit x → Full (limit_in h n) edges x → get_or n.shares h 0 ≤ edges
  has_share edges x (inl z) f = omega (arith, f.0 z, share_below)
  has_share edges x (inr z) f = omega (arith, f.1 z, share_below, limit_below)

-- ---- a call that turns a pipe away

-- for the limit, with so many edges in the house
record TurnedFor (limit edges : ℕ) : Type 0 where
  refusal : ℕ
  for_limit : ForLimit refusal
  full : Full limit edges refusal

not_32 : (x : ℕ) → ForLimit x → 32 ≢ x
not_32 x (inl z) e = omega (arith, z, e)
not_32 x (inr z) e = omega (arith, z, e)

commit_turned : (limit : ℕ) (r : Register) (q : Quote) (x : ℕ) → commit limit r q ≡ refused x → ForLimit x → Full limit (length r.edges) x
commit_turned limit r q x h t = go (made_now limit r q)
  where
    same : 32 ≡ x → ⊥
    same = not_32 x t

    refused_is : refused 32 ≡ refused x → 32 ≡ x
    refused_is e = cc

    go : (q ≡ quote limit r q.asked) ⊎ (q ≢ quote limit r q.asked) → Full limit (length r.edges) x
    go (inl e) = edge_full limit r q.asked x (edge_refused limit r q.asked x (sym (commit_same limit r q e) ∙ h))
    go (inr d) = absurd (same (refused_is (sym (commit_differs limit r q d) ∙ h)))

quote_turned : (limit : ℕ) (r : Register) (e : Edge) → LimitDeclines (quote limit r e).terms → TurnedFor limit (length r.edges)
quote_turned limit r e t = go (edge_refusal limit r e) refl (subst LimitDeclines (terms_by limit r e) t)
  where
    go : (o : Option ℕ) → edge_refusal limit r e ≡ o → LimitDeclines (terms_for r e o) → TurnedFor limit (length r.edges)
    go (some x) q w = record { refusal = x; for_limit = w; full = edge_full limit r e x q }
    go none q w = absurd w

-- no other question does
Calm : Reply → Type 0
Calm a = TurnedAway a → ⊥

calm_refusal : (x : ℕ) → x ≤ 9 → Calm (refuses x)
unfolding Calm
calm_refusal x l (inl z) = omega arith
calm_refusal x l (inr z) = omega arith

calm_find : (r : Register) (label : ℕ) → Calm (find r label)
unfolding Calm find found_at
calm_find r label = go (vertex_with r label (up_to r.vertices))
  where
    go : (o : Option ℕ) → Calm (elim o [ some v ↦ found_at r v | none ↦ refuses 8 ])
    go (some v) = if_either Calm (vertex_on_ring r.edges v) _ _ (λ t. t) (λ t. t)
    go none = calm_refusal 8 (omega arith)

calm_measure : (r : Register) (v w : ℕ) → Calm (measure r v w)
unfolding Calm measure
calm_measure r v w = if_either Calm (not (ltb v r.vertices && ltb w r.vertices)) (refuses 5) _ (calm_refusal 5 (omega arith)) (λ t. t)

calm_fills : (slice ns : List ℕ) (a : Reply) → Calm a → Calm (fills slice ns a).reply
unfolding Calm fills
calm_fills slice ns a h = if_either (λ (x : Answer). Calm x.reply) (ltb (length slice) (length ns)) _ _ (calm_refusal 9 (omega arith)) h

calm_fetch : (removals : ℕ) (r : Register) (s : OpenSheet) → Calm (fetch removals r s)
unfolding Calm fetch fetch_line
calm_fetch removals r s =
    if_either Calm (is_ended removals s) (refuses 39) _ other (if_either Calm (is_beyond r s) (refuses 33) _ beyond (go (line_at s.place (opened_lines r s))))
  where
    other : ForLimit 39 → ⊥
    other (inl z) = omega arith
    other (inr z) = omega arith

    beyond : ForLimit 33 → ⊥
    beyond (inl z) = omega arith
    beyond (inr z) = omega arith

    go : (o : Option (List ℕ)) → Calm (fetch_line s o)
    go (some ns) = λ t. t
    go none = λ t. t

asks_turned : (q : Ask) (s : House) → TurnedAway (answer q s).reply → TurnedFor s.limit (length s.register.edges)
unfolding answer answers Calm find_at
asks_turned (finding label) s t = absurd (calm_find s.register label t)
asks_turned (finding_at v) s t = absurd (calm_find s.register (label_of s.register v) t)
asks_turned (measuring v w) s t = absurd (calm_measure s.register v w t)
asks_turned (sheeting slice) s t = absurd (calm_fills slice (sheet_numbers s.register) _ (λ z. z) t)
asks_turned (writing slice) s t = absurd (calm_fills slice (written s.register) _ (λ z. z) t)
asks_turned (quoting e) s t = quote_turned s.limit s.register e t
asks_turned opening s t = absurd t
asks_turned (fetching o) s t = absurd (calm_fetch s.removals s.register o t)

list_turned : (limit : ℕ) (r : Register) (bs : List ℕ) → LimitStops (land_list limit r bs).stop → TurnedFor limit (length (land_list limit r bs).register.edges)
list_turned limit r bs t = go (land_list limit r bs).stop t (list_bounded limit r bs).full
  where
    go : (k : Stop) → LimitStops k → FullAt limit (length (land_list limit r bs).register.edges) k → TurnedFor limit (length (land_list limit r bs).register.edges)
    go whole w f = absurd w
    go (stopped k x) w f = record { refusal = x; for_limit = w; full = f }

commits_turned : (s : House) (q : Quote) (l : Landed) → commit s.limit s.register q ≡ l → TurnedAway (commit_effect s l).reply
    → TurnedFor s.limit (length (commit_effect s l).leaves.edges)
unfolding commit_effect
commits_turned s q (landed r) h t = absurd t
commits_turned s q (refused x) h t = record { refusal = x; for_limit = t; full = commit_turned s.limit s.register q x h t }

removes_calm : (s : House) (d room x : ℕ) → KeptFor s d room x → ForLimit x → ⊥
removes_calm s d room x (no_such_edge a e) (inl z) = omega (arith, e, z)
removes_calm s d room x (no_such_edge a e) (inr z) = omega (arith, e, z)
removes_calm s d room x (no_more_removals a e) (inl z) = omega (arith, e, z)
removes_calm s d room x (no_more_removals a e) (inr z) = omega (arith, e, z)
removes_calm s d room x (no_room i k r g a e) (inl z) = omega (arith, e, z)
removes_calm s d room x (no_room i k r g a e) (inr z) = omega (arith, e, z)

removes_turned : (s : House) (d : ℕ) (slice : List ℕ) (x : Removed) → RemovalIs s d (length slice) x → TurnedAway (remove_effect s slice x).reply → ⊥
unfolding remove_effect
removes_turned s d slice (removed r cs) k t = t
removes_turned s d slice (kept_with x) k t = removes_calm s d (length slice) x k t

effect_turned : (c : HouseCall) (s : House) → Reachable s.register → TurnedAway (effect c s).reply → TurnedFor s.limit (length (effect c s).leaves.edges)
unfolding effect read_effect
effect_turned (grows bs) s r t = list_turned s.limit empty bs t
effect_turned (lands bs) s r t = list_turned s.limit s.register bs t
effect_turned (commits q) s r t = commits_turned s q (commit s.limit s.register q) refl t
effect_turned (removes d slice) s r t =
    absurd (removes_turned s d slice (remove s d (length slice)) (removal_is s (founded s.register r) d (length slice)) t)
effect_turned (asks q) s r t = asks_turned q s t

-- what bars a call is none of these
barred_calm : (x : ℕ) → (x ≡ 25) ⊎ ((x ≡ 21) ⊎ (x ≡ 37)) → ForLimit x → ⊥
barred_calm x (inl e) (inl z) = omega (arith, e, z)
barred_calm x (inl e) (inr z) = omega (arith, e, z)
barred_calm x (inr (inl e)) (inl z) = omega (arith, e, z)
barred_calm x (inr (inl e)) (inr z) = omega (arith, e, z)
barred_calm x (inr (inr e)) (inl z) = omega (arith, e, z)
barred_calm x (inr (inr e)) (inr z) = omega (arith, e, z)

-- ---- what is left in the house

counts_put : (h : ℕ) (r : Register) (k : ℕ) (n : Nursery) → h < length n.heads → (stored_in h (put_in h r k n)).counts.edges ≡ length r.edges
unfolding stored_in put_in counts_of
counts_put h r k n l = ap (λ (c : Counts). c.edges) (get_or-set_same n.heads h (counts_of r) no_counts l)

map_set : (cs : List Counts) (i : ℕ) (c : Counts) → map (λ (k : Counts). k.edges) (set cs i c) ≡ set (map (λ (k : Counts). k.edges) cs) i c.edges
map_set [] i c = refl
map_set (k ∷ cs) zero c = refl
map_set (k ∷ cs) (suc i) c = ap (λ (ns : List ℕ). k.edges ∷ ns) (map_set cs i c)

edges_put : (h : ℕ) (r : Register) (k : ℕ) (n : Nursery) → edges_in (put_in h r k n) ≡ set (edges_in n) h (length r.edges)
unfolding edges_in put_in counts_of
edges_put h r k n = map_set n.heads h (counts_of r)

shares_put : (h : ℕ) (r : Register) (k : ℕ) (n : Nursery) → (put_in h r k n).shares ≡ n.shares
unfolding put_in
shares_put h r k n = refl

-- the edges of a house that is held, as its head counts them
pub edges_held : (h : ℕ) (n : Nursery) (r : Register) → held (stored_in h n) ≡ some r → get_or (edges_in n) h 0 ≡ length r.edges
unfolding edges_in no_counts stored_in stored_of counts_of
edges_held h n r e =
    get_or-map (λ (c : Counts). c.edges) n.heads h no_counts
    ∙ ap (λ (s : Stored). s.counts.edges) (only_held (stored_in h n) r e).stored_is

-- any call but a grow finds no more edges there than its limit, and so leaves no more
found_few : (h : ℕ) (c : HouseCall) (n : Nursery) → Among h n → held (stored_in h n) ≡ some (register_in h n) → sum (reserves n.shares (edges_in n)) ≤ licence
    → length (effect c (house_in h n)).leaves.edges ≤ limit_in h n
unfolding house_in limit_in
found_few h c n a e w =
    let r = register_reachable h n in
    omega (
      arith,
      (does_house c (house_in h n) (history r) (record { reachable = r; history_is = refl })).few,
      edges_held h n (register_in h n) e,
      own_within h n.shares (edges_in n) (as_many n h a) (below_eight n h a) w,
    )

left_few : (h : ℕ) (c : HouseCall) (l : Lent) → Among h l.nursery → Open (in_house h c) l → length (effect c (house_in h l.nursery)).leaves.edges ≤ limit_in h l.nursery
unfolding own_of grown_by is_own edges_but house_in
left_few h (grows bs) l a o = grown_few bs (house_in h l.nursery)
left_few h (lands bs) l a o = found_few h (lands bs) l.nursery a (o.held_all h a.inside refl) o.within
left_few h (commits q) l a o = found_few h (commits q) l.nursery a (o.held_all h a.inside refl) o.within
left_few h (removes d slice) l a o = found_few h (removes d slice) l.nursery a (o.held_all h a.inside refl) o.within
left_few h (asks q) l a o = found_few h (asks q) l.nursery a (o.held_all h a.inside refl) o.within

-- ---- the claims, over whatever is lent

module _ (h : ℕ) (c : HouseCall) (l : Lent) (eight : length l.nursery.heads ≡ houses) where
  abbrev n : Nursery
  n = l.nursery

  -- "a house below its share is never turned away for the limit": who is, has its share then
  pub turned_away : TurnedAway (step (in_house h c) l).reply
      → get_or l.nursery.shares h 0 ≤ (stored_in h (step (in_house h c) l).lent.nursery).counts.edges
  unfolding does house_in
  turned_away t = go (barred (in_house h c) l) refl
    where
      Goal : Type 0
      Goal = get_or l.nursery.shares h 0 ≤ (stored_in h (step (in_house h c) l).lent.nursery).counts.edges

      go : (x : Option ℕ) → barred (in_house h c) l ≡ x → Goal
      go (some x) e =
          absurd (barred_calm x (barred_by (in_house h c) l x e) (subst (λ (p : Outcome). TurnedAway p.reply) (step_barred (in_house h c) l x e) t))
      go none e =
          let o = is_open (in_house h c) l e in
          let a = among h c l eight o in
          let w = effect_turned c (house_in h n) (register_reachable h n) (subst (λ (p : Outcome). TurnedAway p.reply) (step_open (in_house h c) l e) t) in
          let m = counts_put h (effect c (house_in h n)).leaves (effect c (house_in h n)).removals n (omega (arith, eight, a.inside)) in
          rw (step_open (in_house h c) l e) (omega (arith, m, has_share n h a (length (effect c (house_in h n)).leaves.edges) w.refusal w.for_limit w.full))

  -- "the sum never passes 4,096", of shares and of pipes
  pub reserved_after : barred (in_house h c) l ≡ none
      → let n' = (step (in_house h c) l).lent.nursery in sum (reserves n'.shares (edges_in n')) ≤ licence
  unfolding does limit_in
  reserved_after e =
      let o = is_open (in_house h c) l e in
      let a = among h c l eight o in
      let x = effect c (house_in h n) in
      rw (step_open (in_house h c) l e, edges_put h x.leaves x.removals n, shares_put h x.leaves x.removals n)
      (within_limit h n.shares (edges_in n) (as_many n h a) (below_eight n h a) (length x.leaves.edges) a.others_within (left_few h c l a o))
