-- The neighbour of a regular vertex over its low edge wears the label before, unless the vertex wears the lowest label of its chain or
-- ring: then the neighbour is singular, or it wears the highest label of the ring.
use mathlib.Core.Path.{◌≡◌, refl, sym, ap, ◌∙◌, subst}
use mathlib.Core.Logic.{◌⊎◌, inl, inr}
use Prim.Native.Nat.{ℕ, zero, suc, ◌+◌, ◌≤◌, ◌<◌}
use native.Mathlib.Omega.{arith}
use mathlib.Core.Bool.{true, false}
use mathlib.Core.List.Memᴰ
use mathlib.Core.List.Memᴰ.{cases_cons as mem-cases}
use mathlib.Core.List.Memᴰ.{head as at_head}
use mathlib.Core.List.Memᴰ.{not-nil as mem-nil}
use mathlib.Core.List.Memᴰ.{tail as in_Tail}
use mathlib.Core.List.{List, [], ◌∷◌, ◌++◌, map, reverse-reverse, Memᴰ as Mem}
use lib.ListN.{length}
use Rattle.model.specs.Basics.{count_from}
use Rattle.model.specs.Graph.{Chain, Edge, chain_of, edge_on_ring, far, is_regular}
use Rattle.model.specs.Register.{Register, label_of, low_edge_of, marks_of}
use Rattle.model.specs.Notions.{IsChain, IsRing, PathOver, RisesRound, Upwards, UpwardsRound, edge_on, one_edge_lem, reversed}
use Rattle.model.proofs.Basics.Booleans.{true_or_false}
use Rattle.model.proofs.Basics.Lists.{mem_reverse}
use Rattle.model.proofs.Walks.Degree.{Proper, is_two}
use Rattle.model.proofs.Walks.Turn.{At}
use Rattle.model.proofs.Walks.Joins.{far_ne, joins_far}
use Rattle.model.proofs.Chains.Same.{LineOf, line_chain}
use Rattle.model.proofs.Chains.Partition.{own_line}
use Rattle.model.proofs.Chains.Exact.{chain_is_chain, line_back, line_back_chain, line_is_chain}
use Rattle.model.proofs.Labels.Following.{low_at}
use Rattle.theory.proofs.Labels.Rise.{Sided}
use Rattle.theory.proofs.Labels.Consecutive.{chain_upwards}
use Rattle.theory.proofs.Labels.ConsecutiveRound.{ring_upwards}

-- numbers counted from k on are at least k
pub count_from_least : (k n x : ℕ) → Mem x (count_from k n) → k ≤ x
unfolding count_from
count_from_least k zero x m = absurd (mem-nil m)
count_from_least k (suc n) x m = go (mem-cases m) (λ h. count_from_least (suc k) n x h)
  where
    go : (x ≡ k) ⊎ Mem x (count_from (suc k) n) → (Mem x (count_from (suc k) n) → suc k ≤ x) → k ≤ x
    go (inl e) ih = omega arith
    go (inr h) ih = omega (arith, ih h)

cons_head : {a b : ℕ} {xs ys : List ℕ} → a ∷ xs ≡ b ∷ ys → a ≡ b
cons_head e = cc

cons_tail : {a b : ℕ} {xs ys : List ℕ} → a ∷ xs ≡ b ∷ ys → xs ≡ ys
cons_tail e = cc

-- the last of x and some vertices
unfoldable ends_with : ℕ → List ℕ → ℕ
ends_with x [] = x
ends_with x (v ∷ vs) = ends_with v vs

module _ (r : Register) (pr : Proper r.edges) where
  -- what stands over the low edge of v: on a path from x through some vertices whose labels rise from k on
  data Behind (x : ℕ) (vs : List ℕ) (k v : ℕ) : Type 0 where
    at_first : label_of r v ≡ k → far r.edges (low_edge_of r v) v ≡ x → Behind x vs k v
    later : (w : ℕ) → Mem w vs → far r.edges (low_edge_of r v) v ≡ w → label_of r v ≡ suc (label_of r w) → Behind x vs k v

  behind : {x y : ℕ} {ds vs : List ℕ} (k last : ℕ) → PathOver r.edges x ds vs y → map (label_of r) vs ≡ count_from k (length vs)
      → map (low_edge_of r) vs ++ (last ∷ []) ≡ ds → (v : ℕ) → Mem v vs → Behind x vs k v
  unfolding count_from
  behind k last (one_edge_lem d h j) ls lows v m = absurd (mem-nil m)
  behind {x} k last (edge_on {w = w} {ds = ds} {vs = vs} d h j p) ls lows v m =
      go (mem-cases m) (λ n. behind (suc k) last p (cons_tail ls) (cons_tail lows) v n)
    where
      label_is : label_of r w ≡ k
      label_is = cons_head ls

      low_is : low_edge_of r w ≡ d
      low_is = cons_head lows

      go : (v ≡ w) ⊎ Mem v vs → (Mem v vs → Behind w vs (suc k) v) → Behind x (w ∷ vs) k v
      go (inl e) ih = rw e (at_first label_is (rw low_is (joins_far r.edges d x w pr h j)))
      go (inr n) ih = on (ih n)
        where
          on : Behind w vs (suc k) v → Behind x (w ∷ vs) k v
          on (at_first l f) = later w (at_head refl) f (omega (arith, label_is))
          on (later u mu f l) = later u (in_Tail mu) f l

  -- the last edge of the path leads from the last of them to its end
  last_behind : {x y : ℕ} {ds vs : List ℕ} (last : ℕ) → PathOver r.edges x ds vs y → map (low_edge_of r) vs ++ (last ∷ []) ≡ ds → far r.edges last y ≡ ends_with x vs
  unfolding ends_with
  last_behind {x} {y} last (one_edge_lem d h j) lows =
      let e : last ≡ d = cons_head lows in
      rw e (joins_far r.edges d x y pr h j)
  last_behind last (edge_on d h j p) lows = last_behind last p (cons_tail lows)

  last_label : (k x : ℕ) (vs : List ℕ) → label_of r x ≡ k → map (label_of r) vs ≡ count_from (suc k) (length vs) → label_of r (ends_with x vs) ≡ k + length vs
  unfolding ends_with count_from
  last_label k x [] e ls = omega arith
  last_label k x (v ∷ vs) e ls =
      let a : label_of r v ≡ suc k = cons_head ls in
      let b : map (label_of r) vs ≡ count_from (suc (suc k)) (length vs) = cons_tail ls in
      omega (arith, last_label (suc k) v vs a b)

  -- ---- the neighbour over the low edge

  -- v wears the lowest label, or its neighbour over the low edge the label before
  pub data LowNeighbour (d v : ℕ) : Type 0 where
    lowest : ((w : ℕ) → Mem w (chain_of r.edges d).inner → label_of r v ≤ label_of r w)
        → (is_regular r.edges (far r.edges (low_edge_of r v) v) ≡ false)
        ⊎ ((edge_on_ring r.edges d ≡ true) × (label_of r v < label_of r (far r.edges (low_edge_of r v) v))) → LowNeighbour d v
    above : Mem (far r.edges (low_edge_of r v) v) (chain_of r.edges d).inner
        → label_of r v ≡ suc (label_of r (far r.edges (low_edge_of r v) v)) → LowNeighbour d v

  all_above : (k : ℕ) (vs : List ℕ) → map (label_of r) vs ≡ count_from k (length vs) → (w : ℕ) → Mem w vs → k ≤ label_of r w
  all_above k vs e w m =
      count_from_least k (length vs) (label_of r w) (subst (λ (l : List ℕ). Mem (label_of r w) l) e (Memᴰ.map (label_of r) m))

  module _ (s : Sided r.edges (marks_of r)) (d : ℕ) (h : d < length r.edges) where
    abbrev es : List Edge
    es = r.edges

    -- on a chain, read upwards
    on_chain : (c : Chain) → IsChain es c → Upwards r c → ((w : ℕ) → Mem w c.inner → Mem w (chain_of es d).inner) → ((w : ℕ) → Mem w (chain_of es d).inner → Mem w c.inner)
        → (v : ℕ) → Mem v c.inner → LowNeighbour d v
    on_chain c is up to back v m = go (behind up.lowest up.last is.path up.labels up.low_edges v m)
      where
        go : Behind c.start c.inner up.lowest v → LowNeighbour d v
        go (at_first l f) =
            lowest (λ w n. omega (arith, l, all_above up.lowest c.inner up.labels w (back w n)))
            (inl (rw f is.starts))
        go (later w n f l) = above (rw f (to w n)) (rw f l)

    -- in a ring
    in_ring : edge_on_ring es d ≡ true → RisesRound r d → (v : ℕ) → is_regular es v ≡ true → Mem v (chain_of es d).inner → LowNeighbour d v
    unfolding count_from ends_with marks_of low_at
    in_ring t k v reg m = go (mem-cases (subst (λ (l : List ℕ). Mem v l) is.inner_are (k.same.inner_back v m)))
      where
        c : Chain
        c = k.ring

        is : IsRing es c
        is = k.is_ring_lem

        up : UpwardsRound r c
        up = k.upwards

        x : ℕ
        x = is.from

        vs : List ℕ
        vs = is.others

        labels : label_of r x ∷ map (label_of r) vs ≡ up.lowest ∷ count_from (suc up.lowest) (length vs)
        labels = subst (λ (l : List ℕ). map (label_of r) l ≡ count_from up.lowest (length l)) is.inner_are up.labels

        lows : low_edge_of r x ∷ (map (low_edge_of r) vs ++ (up.last ∷ [])) ≡ up.last ∷ c.edges
        lows = subst (λ (l : List ℕ). map (low_edge_of r) l ++ (up.last ∷ []) ≡ up.last ∷ c.edges) is.inner_are up.low_edges

        first_label : label_of r x ≡ up.lowest
        first_label = cons_head labels

        other_labels : map (label_of r) vs ≡ count_from (suc up.lowest) (length vs)
        other_labels = cons_tail labels

        first_low : low_edge_of r x ≡ up.last
        first_low = cons_head lows

        other_lows : map (low_edge_of r) vs ++ (up.last ∷ []) ≡ c.edges
        other_lows = cons_tail lows

        all : (w : ℕ) → Mem w (chain_of es d).inner → up.lowest ≤ label_of r w
        all w n = all_above up.lowest c.inner up.labels w (k.same.inner_back w n)

        in_chain : (w : ℕ) → Mem w (x ∷ vs) → Mem w (chain_of es d).inner
        in_chain w n = k.same.inner_in w (subst (λ (l : List ℕ). Mem w l) (sym is.inner_are) n)

        highest : (ws : List ℕ) → vs ≡ ws → v ≡ x → label_of r v < label_of r (far es (low_edge_of r v) v)
        highest [] e q =
            let f : far es up.last x ≡ x = last_behind up.last is.path other_lows ∙ ap (ends_with x) e in
            let a : At es v (low_edge_of r v) = s.low_at_lem v (is_two es v reg) in
            absurd (far_ne es (low_edge_of r v) v pr a (rw (q, first_low) f))
        highest (w ∷ ws) e q =
            let f : far es up.last x ≡ ends_with x vs = last_behind up.last is.path other_lows in
            let n : length vs ≡ suc (length ws) = ap length e in
            rw (q, first_low, f) (omega (arith, first_label, n, last_label up.lowest x vs first_label other_labels))

        on : Behind x vs (suc up.lowest) v → LowNeighbour d v
        on (at_first l f) = above (rw f (in_chain x (at_head refl))) (rw f (omega (arith, first_label, l)))
        on (later w n f l) = above (rw f (in_chain w (in_Tail n))) (rw f l)

        go : (v ≡ x) ⊎ Mem v vs → LowNeighbour d v
        go (inl q) = lowest (λ w n. omega (arith, all w n, ap (label_of r) q, first_label)) (inr (t, highest vs refl q))
        go (inr n) = on (behind (suc up.lowest) up.last is.path other_labels other_lows v n)

    -- a regular vertex of a chain or ring wears its lowest label, or its neighbour over the low edge the label before
    pub low_neighbour : (v : ℕ) → is_regular es v ≡ true → Mem v (chain_of es d).inner → LowNeighbour d v
    unfolding reversed
    low_neighbour v reg m = go (true_or_false (edge_on_ring es d))
      where
        open_case : edge_on_ring es d ≡ false → Upwards r (chain_of es d) ⊎ Upwards r (reversed (chain_of es d)) → LowNeighbour d v
        open_case q (inl up) = on_chain (chain_of es d) (chain_is_chain es pr d h q) up (λ w n. n) (λ w n. n) v m
        open_case q (inr up) =
            let o : LineOf es (chain_of es d) = own_line es pr d h q in
            let e : line_chain (line_back es pr o.line) ≡ reversed (chain_of es d) = line_back_chain es pr o.line ∙ ap reversed o.chain_is in
            on_chain (reversed (chain_of es d)) (subst (λ (c : Chain). IsChain es c) e (line_is_chain es pr (line_back es pr o.line))) up
            (λ w n. subst (λ (l : List ℕ). Mem w l) (reverse-reverse (chain_of es d).inner) (mem_reverse w _ n))
            (λ w n. mem_reverse w _ n) v (mem_reverse v _ m)

        go : (edge_on_ring es d ≡ true) ⊎ (edge_on_ring es d ≡ false) → LowNeighbour d v
        go (inl q) = in_ring q (ring_upwards r pr s d h q) v reg m
        go (inr q) = open_case q (chain_upwards r pr s d h q)
