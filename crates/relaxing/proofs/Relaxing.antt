-- What trying one edge does to the distances.
use mathlib.Core.Path.{◌≡◌, refl, ap}
use Prim.Native.Nat.{ℕ, ◌+◌, ◌*◌, ◌-◌, ◌/◌, ◌≤◌, ◌<◌, min, max}
use native.Mathlib.Decide.{ℕ_discrete}
use native.Mathlib.Omega.{arith}
use mathlib.Core.List.{List, []}
use lib.ListN.{length, get_or, set, length-set}
use lib.Seq.{get_or-set_same, get_or-set_other}
use Rattle.model.specs.Basics.{max_vertices}
use Rattle.model.specs.Distance.{Joins, forth, back}
use Rattle.model.specs.Tables.{stored_edge}
use Rattle.tables.specs.Steps.{edge_of}
use Rattle.relaxing.specs.Distances.{unreached, Searchable, Bounded, Reason, is_goal, over, Grounded, Keeps, Still, Within, Relaxed, rests, lowers}
use Rattle.relaxing.proofs.Edges.{ends_below}

-- an edge as long as best lowers nothing below it
pub still_long : (ends lengths distances : List ℕ) (best e len : ℕ) → len ≡ get_or lengths e 0 → best ≤ len → Still ends lengths distances best e
still_long ends lengths distances best e len p q = record { first = omega arith; second = omega arith }

-- an edge that would lower no distance below `best` is still
pub still_of : (ends lengths distances : List ℕ) (best e a b len da db s : ℕ) → a ≡ get_or ends (2 * e) 0 → b ≡ get_or ends (2 * e + 1) 0 → len ≡ get_or lengths e 0
    → da ≡ get_or distances a 0 → db ≡ get_or distances b 0 → s ≡ min da db + len → min best (max da db) ≤ s → Still ends lengths distances best e
still_of ends lengths distances best e a b len da db s p q r t u w x =
    let y : min best da ≤ len + db = omega arith in
    let z : min best db ≤ len + da = omega arith in
    record { first = rw (← p, ← q, ← r, ← t, ← u) y; second = rw (← p, ← q, ← r, ← t, ← u) z }

-- end v gets a lesser distance from the other end
pub lowered : (ends lengths distances distances' : List ℕ) (best e v u dv du len s : ℕ) → Joins (edge_of ends lengths [] e) v u → dv ≡ get_or distances v 0
    → du ≡ get_or distances u 0 → len ≡ get_or lengths e 0 → s ≡ du + len → s < dv → distances' ≡ set distances v s
    → Relaxed ends lengths distances distances' best e v
lowered ends lengths distances distances' best e v u dv du len s j p q r t l o =
    let z : get_or lengths e 0 + get_or distances u 0 ≡ s = omega arith in
    lowers u j (omega arith) (rw z o)

-- a store of no more than what stood there raises no element
store_le : (l : List ℕ) (i v k : ℕ) → i < length l → v ≤ get_or l i 0 → get_or (set l i v) k 0 ≤ get_or l k 0
store_le l i v k h g = go (ℕ_discrete k i)
  where
    go : Dec (k ≡ i) → get_or (set l i v) k 0 ≤ get_or l k 0
    go (yes e) = rw e (rw (get_or-set_same l i v 0 h) g)
    go (no e) = omega (arith, get_or-set_other l i k v 0 e)

-- distances that are not changed keep what they are grounded on; so do two changes, one after the other
pub keeps_same : {ends lengths : List ℕ} {m : ℕ} {distances : List ℕ} → Bounded ends lengths m distances → Keeps ends lengths m distances distances
keeps_same b = record { bounded = b; grounded = λ goal g. g }

pub keeps_on : {ends lengths : List ℕ} {m : ℕ} {d d' d'' : List ℕ} → Keeps ends lengths m d d' → Keeps ends lengths m d' d'' → Keeps ends lengths m d d''
keeps_on k k' = record { bounded = k'.bounded; grounded = λ goal g. k'.grounded goal (k.grounded goal g) }

-- The two ends of one edge: entry j of a list stands for end j - 2, and half of it is the edge's number plus 1.
pub end_vertex : {ends lengths : List ℕ} {m : ℕ} → Searchable ends lengths m → (k : ℕ) → k < 2 * m → get_or ends k 0 < max_vertices
end_vertex {ends} {lengths} {m} h k l = go (ℕ_discrete k (2 * (k / 2)))
  where
    go : Dec (k ≡ 2 * (k / 2)) → get_or ends k 0 < max_vertices
    go (yes p) = rw p (h.firsts (k / 2) (omega arith))
    go (no p) = let q : k ≡ 2 * (k / 2) + 1 = omega arith in rw q (h.seconds (k / 2) (omega arith))

-- an end of an edge has a place in the distances
pub end_room : {ends lengths : List ℕ} {m : ℕ} {distances : List ℕ} → Bounded ends lengths m distances → (k x : ℕ) → k < 2 * m → x ≡ get_or ends k 0 → x < length distances
end_room b k x l e = omega (arith, end_vertex b.searchable k l, b.room)

joins_far : (ends lengths : List ℕ) (j half : ℕ) → half ≡ j / 2 → 1 ≤ half
    → Joins (edge_of ends lengths [] (half - 1)) (get_or ends (4 * half - 1 - j) 0) (get_or ends (j - 2) 0)
unfolding stored_edge
joins_far ends lengths j half p a = go (ℕ_discrete j (2 * half))
  where
    go : Dec (j ≡ 2 * half) → Joins (edge_of ends lengths [] (half - 1)) (get_or ends (4 * half - 1 - j) 0) (get_or ends (j - 2) 0)
    go (yes q) =
        let near : 2 * (half - 1) ≡ j - 2 = omega arith in
        let far : 2 * (half - 1) + 1 ≡ 4 * half - 1 - j = omega arith in
        back (ap (λ (k : ℕ). get_or ends k 0) far) (ap (λ (k : ℕ). get_or ends k 0) near)
    go (no q) =
        let near : 2 * (half - 1) + 1 ≡ j - 2 = omega arith in
        let far : 2 * (half - 1) ≡ 4 * half - 1 - j = omega arith in
        forth (ap (λ (k : ℕ). get_or ends k 0) far) (ap (λ (k : ℕ). get_or ends k 0) near)

module _ (ends lengths : List ℕ) (m : ℕ) (distances : List ℕ) (b : Bounded ends lengths m distances) where
  -- the ends of an edge are within the tables
  pub within : (e : ℕ) → e < m → Within ends lengths distances e
  within e l =
      let h = b.searchable in
      record {
        ends_room = omega (arith, h.ends_room);
        lengths_room = omega (arith, h.lengths_room);
        first_room = omega (arith, h.firsts e l, b.room);
        second_room = omega (arith, h.seconds e l, b.room);
        first_distance = b.top (get_or ends (2 * e) 0) (h.firsts e l);
        short = h.short e l;
      }

  -- a lesser distance keeps the distances grounded
  keeps_set : (e v u s : ℕ) → e < m → Joins (edge_of ends lengths [] e) v u → s ≡ get_or lengths e 0 + get_or distances u 0 → s < get_or distances v 0
      → Keeps ends lengths m distances (set distances v s)
  keeps_set e v u s l j p c = record { bounded = bounded'; grounded = grounded' }
    where
      vn : v < length distances
      vn = omega (arith, (ends_below b.searchable l j).0, b.room)

      less : (k : ℕ) → get_or (set distances v s) k 0 ≤ get_or distances k 0
      less k = store_le distances v s k vn (omega arith)

      bounded' : Bounded ends lengths m (set distances v s)
      bounded' = record { searchable = b.searchable; room = simp length-set b.room; top = λ k kn. omega (arith, less k, b.top k kn) }

      grounded' : (goal : ℕ) → Grounded ends lengths m goal distances → Grounded ends lengths m goal (set distances v s)
      grounded' goal g = record { bounded = bounded'; at_goal = omega (arith, less goal, g.at_goal); reason = λ w wn r. reason' w wn r (ℕ_discrete w v) }
        where
          reason' : (w : ℕ) → w < max_vertices → get_or (set distances v s) w 0 < unreached → Dec (w ≡ v) → Reason ends lengths m goal (set distances v s) w
          reason' w wn r (yes q) = rw q (over e u l j (omega (arith, less u, get_or-set_same distances v s 0 vn)))
          reason' w wn r (no q) = again (g.reason w wn (omega (arith, other)))
            where
              other : get_or (set distances v s) w 0 ≡ get_or distances w 0
              other = get_or-set_other distances v w s 0 q

              again : Reason ends lengths m goal distances w → Reason ends lengths m goal (set distances v s) w
              again (is_goal q') = is_goal q'
              again (over e' u' l' j' c') = over e' u' l' j' (omega (arith, less u', other))

  -- trying an edge keeps the distances grounded
  pub relaxed_keeps : (distances' : List ℕ) (best e r : ℕ) → e < m → Relaxed ends lengths distances distances' best e r → Keeps ends lengths m distances distances'
  relaxed_keeps distances' best e r l (rests p q s) = rw q (keeps_same b)
  relaxed_keeps distances' best e r l (lowers u j c q) = rw q (keeps_set e r u (get_or lengths e 0 + get_or distances u 0) l j refl c)

  -- the step from the near end to the far one
  pub far_keeps : (distances' : List ℕ) (j half near far dn df len s : ℕ) → half ≡ j / 2 → 1 ≤ half → half ≤ m → near ≡ get_or ends (j - 2) 0
      → far ≡ get_or ends (4 * half - 1 - j) 0 → dn ≡ get_or distances near 0 → df ≡ get_or distances far 0 → len ≡ get_or lengths (half - 1) 0 → s ≡ dn + len → s < df
      → distances' ≡ set distances far s → Keeps ends lengths m distances distances'
  far_keeps distances' j half near far dn df len s p a c x y t u r w q o =
      let i : Joins (edge_of ends lengths [] (half - 1)) far near = rw (x, y) (joins_far ends lengths j half p a) in
      relaxed_keeps distances' 0 (half - 1) far (omega arith) (lowered _ _ _ _ _ _ _ _ df dn len s i u t r w q o)
