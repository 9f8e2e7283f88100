-- The search from the newest chain over the tables takes what the search of model takes, and tells of the vertex whose chain that one names.
use Rattle.std.specs.Prelude.{if◌then◌else◌}
use mathlib.Core.Path.{◌≡◌, refl, sym, ap, ◌∙◌, subst}
use mathlib.Core.Logic.{◌≢◌, ◌⊎◌, inl, inr}
use Prim.Native.Nat.{ℕ, zero, suc, ◌+◌, ◌-◌, ◌*◌, ◌≤◌, ◌<◌, min, max}
use native.Mathlib.Omega.{arith}
use native.Mathlib.Decide.{ℕ_discrete}
use mathlib.Core.Bool.{Bool, true, false, not, ◌&&◌, ◌||◌}
use mathlib.Core.Option.{Option, none, some}
use mathlib.Core.List.Memᴰ
use mathlib.Core.List.Memᴰ.{cases_cons as mem-cases}
use mathlib.Core.List.Memᴰ.{head as at_head}
use mathlib.Core.List.Memᴰ.{not-nil as mem-nil}
use mathlib.Core.List.Memᴰ.{tail as in_Tail}
use mathlib.Core.List.{List, [], ◌∷◌, map, Memᴰ as Mem}
use lib.ListN.{length, get_or}
use lib.Dec.{eqb, ltb}
use borrow.Author.Tests.{eq-eqb, ne_eqb, lt-ltb, le-ltb, ltb-true}
use Rattle.model.specs.Graph.{Edge, Pass, at_of, chain_of, edge_at, edge_on_ring, far, is_regular, lower_numbered, once_round, onwards, turn, until, walk}
use Rattle.model.specs.Register.{Register, label_of, low_edge_of, marks_of}
use Rattle.model.specs.Queries.{Reply, chain_at, found_at}
use Rattle.model.specs.Newest.{Searched, has, inner_labels, lowest_label, search_among}
use Rattle.model.specs.Tables.{Tables, tables_of}
use Rattle.model.specs.Notions.{Reachable, SameEdges}
use Rattle.model.specs.Series.{OwnChain}
use Rattle.chains.specs.Chains.{goes_on_in}
use Rattle.ordering.specs.Lowest.{best_in, is_lowest_in, key_in, lowests_in, no_bound}
use Rattle.ordering.proofs.LowestLaws.{lowest_bare}
use Rattle.holders.specs.Newest.{Held, Sought, held, held_after, holds_in, passes_in, rest_in, search_in, take_in, told_of, top_in}
use Rattle.holders.proofs.NewestLaws.{passes_here, passes_on, passes_stop, holds_above, holds_self, search_bare, search_first, search_rest, take_nobody, take_none, take_some, top_most}
use Rattle.holders.proofs.ListedLaws.{Best, best_is, nobody, somebody, total_less}
use Rattle.model.proofs.Basics.Total.{total}
use Rattle.model.proofs.Basics.Booleans.{not_both, true_or_false}
use Rattle.model.proofs.Walks.Degree.{Proper, is_two}
use Rattle.model.proofs.Walks.Turn.{At, Turned, turned, two_edges}
use Rattle.model.proofs.Walks.Joins.{across, far_ne, other_end}
use Rattle.model.proofs.Chains.Partition.{chain_again, chain_back, ring_again}
use Rattle.model.proofs.Chains.Own.{chain_inner, inner_chain, lower_at, own_chain_lem, ring_both}
use Rattle.model.proofs.Labels.Following.{label_at, low_at}
use Rattle.theory.proofs.Labels.Lowest.{LowNeighbour, above, low_neighbour, lowest}
use Rattle.theory.proofs.Labels.Rise.{Step, down_to, rises, seam, up_to}
use Rattle.theory.proofs.Registers.Facts.{LabelFacts}
use Rattle.theory.proofs.Registers.Founded.{regular_landed}
use Rattle.theory.proofs.Registers.Labelled.{label_facts}
use Rattle.theory.proofs.Registers.Sides.{sided}
use Rattle.model.proofs.Registers.ReadBack.{first_read, second_read}
use Rattle.theory.proofs.Registers.Small.{labels_small}
use Rattle.theory.proofs.Registers.Newest.{Falling, Taken, has_mem, in_newest, inner_regular, lowest_most, mem_has, newest, own_is, own_newest}
use Rattle.agreement.proofs.Tables.{far_is, sides_linked}
use Rattle.agreement.proofs.Registers.{few, founded, landed_below, low_at_lem, proper}
use Rattle.agreement.proofs.Chaining.{First, at_end, at_home, onward, at_first, before_home, before_none, before_on, first_step, goes_home, goes_not, goes_on, steps}
use Rattle.agreement.proofs.Chaining as chaining
use Rattle.agreement.proofs.Rounds.{far_first}
use Rattle.agreement.proofs.Looking.{AtEnd, all_met, only_met, through_none, through_some, through_over}

-- ---- the walk upwards

has_here : (label x : ℕ) (xs : List ℕ) → x ≡ label → has label (x ∷ xs) ≡ true
unfolding has
has_here label x xs e = rw (eq-eqb x label e, has)

has_next : (label x : ℕ) (xs : List ℕ) → x ≢ label → has label (x ∷ xs) ≡ has label xs
unfolding has
has_next label x xs e = rw (ne_eqb x label e, has)

-- lists with the same members
has_same : (label : ℕ) (xs ys : List ℕ) → ((x : ℕ) → Mem x xs → Mem x ys) → ((x : ℕ) → Mem x ys → Mem x xs) → has label xs ≡ has label ys
has_same label xs ys f b = go (true_or_false (has label xs)) (true_or_false (has label ys))
  where
    go : (has label xs ≡ true) ⊎ (has label xs ≡ false) → (has label ys ≡ true) ⊎ (has label ys ≡ false) → has label xs ≡ has label ys
    go (inl p) (inl q) = p ∙ sym q
    go (inr p) (inr q) = p ∙ sym q
    go (inl p) (inr q) = absurd (not_both (has label ys) (mem_has label ys (f label (has_mem label xs p))) q)
    go (inr p) (inl q) = absurd (not_both (has label xs) (mem_has label xs (b label (has_mem label ys q))) p)

map_in : (f : ℕ → ℕ) (xs ys : List ℕ) → ((x : ℕ) → Mem x xs → Mem x ys) → (z : ℕ) → Mem z (map f xs) → Mem z (map f ys)
map_in f xs ys h z m = let o = Memᴰ.of_map f xs m in subst (λ (y : ℕ). Mem y (map f ys)) o.2 (Memᴰ.map f (h o.0 o.1))

module _ (r : Register) (g : Reachable r) (label : ℕ) where
  abbrev es : List Edge
  es = r.edges

  abbrev t : Tables
  t = tables_of r

  labels_are : t.labels ≡ r.labels
  unfolding tables_of
  labels_are = refl

  abbrev passes_over : ℕ → ℕ → ℕ → ℕ → Bool
  passes_over = passes_in t.degrees t.sides t.ends t.labels label

  passes_agree : (home n d v : ℕ) → At es v d → passes_over home n d v ≡ has label (map (label_of r) (map at_of (until home (walk n es d v))))
  unfolding passes_in walk until at_of has
  passes_agree home zero d v a = refl
  passes_agree home (suc n) d v a = by (first_step r home v) (λ c at. passes_agree home n c (far es c v) at)
    where
      Goal : Type 0
      Goal = passes_over home (suc n) d v ≡ has label (map (label_of r) (map at_of (until home (walk (suc n) es d v))))

      stop : goes_on_in t.degrees home v ≡ false → until home (walk (suc n) es d v) ≡ [] → Goal
      stop bar e = sym (passes_stop t.degrees t.sides t.ends t.labels label home (suc n) d v bar) ∙ sym (ap (λ (s : List Pass). has label (map (label_of r) (map at_of s))) e)

      by : First r home v
          → ((c : ℕ) → At es (far es c v) c → passes_over home n c (far es c v) ≡ has label (map (label_of r) (map at_of (until home (walk n es c (far es c v)))))) → Goal
      by (at_end p) ih = stop (goes_not r g home d v a p) (before_none home n es d v p)
      by (at_home p e) ih = stop (goes_home r g home d v a e) (before_home home n es d v p e)
      by (onward p e) ih = on (ℕ_discrete (label_of r v) label)
        where
          c : ℕ
          c = turn es d v

          y : chaining.Step r d v
          y = steps r g d v a p

          own : label_of r v ≡ get_or t.labels v 0
          own = ap (λ (ls : List ℕ). get_or ls v 0) (sym labels_are)

          whole : has label (map (label_of r) (map at_of (until home (walk (suc n) es d v)))) ≡ has label (label_of r v ∷ map (label_of r) (map at_of (until home (walk n es c (far es c v)))))
          whole = ap (λ (s : List Pass). has label (map (label_of r) (map at_of s))) (before_on home n es d v p e)

          on : Dec (label_of r v ≡ label) → passes_over home (suc n) d v ≡ has label (map (label_of r) (map at_of (until home (walk (suc n) es d v))))
          on (yes q) =
              sym (passes_here t.degrees t.sides t.ends t.labels label home (suc n) d v (label_of r v) (omega arith) (goes_on r g home d v a p e) own q)
              ∙ sym (whole ∙ has_here label (label_of r v) (map (label_of r) (map at_of (until home (walk n es c (far es c v))))) q)
          on (no q) =
              passes_on t.degrees t.sides t.ends t.labels label home n d v c (far es c v) (goes_on r g home d v a p e) (λ i. q (own ∙ i)) y.turns y.arrives
              ∙ ih c y.at
              ∙ sym (whole ∙ has_next label (label_of r v) (map (label_of r) (map at_of (until home (walk n es c (far es c v))))) q)

-- ---- the chain of a lowest vertex

module _ (r : Register) (g : Reachable r) where
  abbrev es₁ : List Edge
  es₁ = r.edges

  abbrev t₁ : Tables
  t₁ = tables_of r

  pub facts : LabelFacts r
  facts = label_facts r g

  -- the chain of an edge of a chain has the same vertices
  inner_same : (d c w : ℕ) → d < length es₁ → c < length es₁ → Mem c (chain_of es₁ d).edges → Mem w (chain_of es₁ c).inner → Mem w (chain_of es₁ d).inner
  inner_same d c w hd hc m n =
      let pr : Proper es₁ = proper r g in
      let reg : is_regular es₁ w ≡ true = inner_regular r pr c w hc n in
      let a : At es₁ w (lower_numbered es₁ w) = lower_at es₁ pr w reg in
      let s : SameEdges (chain_of es₁ c) (chain_of es₁ d) = chain_again es₁ pr c d hd m in
      chain_inner es₁ pr d (lower_numbered es₁ w) w hd (s.edges_in_lem _ (inner_chain es₁ pr c (lower_numbered es₁ w) w hc n a)) a reg

  -- v wears the lowest label of its chain or ring
  record LowestHere (v : ℕ) : Type 0 where
    regular : is_regular es₁ v ≡ true
    wears : label_of r v ≡ lowest_label r (chain_at r v)

  module _ (v : ℕ) (reg : is_regular es₁ v ≡ true) where
    abbrev low : ℕ
    low = low_edge_of r v

    abbrev home : ℕ
    home = far es₁ (low_edge_of r v) v

    at_low : At es₁ v low
    at_low = low_at_lem r g v (is_two es₁ v reg)

    own : OwnChain es₁ v (chain_at r v)
    unfolding chain_at
    own = own_chain_lem es₁ (proper r g) v reg

    -- the way up from v
    abbrev high : ℕ
    high = turn es₁ (low_edge_of r v) v

    abbrev next_up : ℕ
    next_up = far es₁ (turn es₁ (low_edge_of r v) v) v

    turned_low : Turned es₁ v low
    turned_low = turned es₁ v low (two_edges es₁ v (proper r g) (is_two es₁ v reg)) at_low

    at_high : At es₁ v high
    at_high = turned_low.at

    -- its edges lie on its chain
    low_on : Mem low (chain_of es₁ (chain_at r v)).edges
    low_on = inner_chain es₁ (proper r g) (chain_at r v) low v own.inside own.has at_low

    high_on : Mem high (chain_of es₁ (chain_at r v)).edges
    high_on = inner_chain es₁ (proper r g) (chain_at r v) high v own.inside own.has at_high

    to_own : (w : ℕ) → Mem w (chain_of es₁ high).inner → Mem w (chain_of es₁ (chain_at r v)).inner
    to_own w m = inner_same (chain_at r v) high w own.inside at_high.inside high_on m

    from_own : (w : ℕ) → Mem w (chain_of es₁ (chain_at r v)).inner → Mem w (chain_of es₁ high).inner
    from_own w m = inner_same high (chain_at r v) w at_high.inside own.inside (chain_back es₁ (proper r g) high (chain_at r v) own.inside high_on) m

    -- the ends of an edge of v
    data Ends (d : ℕ) : Type 0 where
      v_first : (edge_at es₁ d).first ≡ v → (edge_at es₁ d).second ≡ far es₁ d v → Ends d
      v_second : (edge_at es₁ d).first ≡ far es₁ d v → (edge_at es₁ d).second ≡ v → Ends d

    ends_of : (d : ℕ) → At es₁ v d → Ends d
    ends_of d at = go (ℕ_discrete (edge_at es₁ d).first v)
      where
        go : Dec ((edge_at es₁ d).first ≡ v) → Ends d
        go (yes e) = v_first e (sym (far_first es₁ d) ∙ ap (far es₁ d) e)
        go (no n) =
            let e : (edge_at es₁ d).first ≡ far es₁ d v = other_end es₁ d v (edge_at es₁ d).first (proper r g) at (at_first r g d at.inside) n in
            v_second e (sym (far_first es₁ d) ∙ ap (far es₁ d) e ∙ (across es₁ d v (proper r g) at).again)

    -- what the tables say of v
    side_is : get_or t₁.sides (2 * v) 0 ≡ low
    side_is = ((sides_linked r g v (landed_below r g v low at_low)).regular (is_two es₁ v reg)).0

    high_is : get_or t₁.sides (2 * v + 1) 0 ≡ high
    high_is = ((sides_linked r g v (landed_below r g v low at_low)).regular (is_two es₁ v reg)).1

    -- v and the vertex over its low edge are the ends of that
    lowest_reads : is_lowest_in t₁.sides t₁.ends t₁.labels v
        ≡ not (eqb (label_of r v) 0) && (eqb (min (label_of r v) (label_of r home)) 0 || ltb (label_of r v) (max (label_of r v) (label_of r home)))
    unfolding is_lowest_in
    lowest_reads = rw (labels_are r g 0, side_is, first_read r low at_low.inside, second_read r low at_low.inside) (go (ends_of low at_low))
      where
        go : Ends low
            → not (eqb (label_of r v) 0) && (eqb (min (label_of r (edge_at es₁ low).first) (label_of r (edge_at es₁ low).second)) 0 || ltb (label_of r v) (max (label_of r (edge_at es₁ low).first) (label_of r (edge_at es₁ low).second)))
            ≡ not (eqb (label_of r v) 0) && (eqb (min (label_of r v) (label_of r home)) 0 || ltb (label_of r v) (max (label_of r v) (label_of r home)))
        go (v_first a b) = rw (a, b)
        go (v_second a b) =
            let m : min (label_of r home) (label_of r v) ≡ min (label_of r v) (label_of r home) = omega arith in
            let n : max (label_of r home) (label_of r v) ≡ max (label_of r v) (label_of r home) = omega arith in
            rw (a, b, m, n)

    -- the walk up from v, over the tables
    walked : (label : ℕ) → passes_in t₁.degrees t₁.sides t₁.ends t₁.labels label v (length es₁) high next_up ≡ has label (map (label_of r) (map at_of (once_round es₁ high v)))
    unfolding once_round onwards
    walked label = passes_agree r g label v (length es₁) high next_up (across es₁ high v (proper r g) at_high).at

    -- where v is next to the low end of its chain, or on a ring, the walk up from it meets all labels of its chain
    holds_is : (label : ℕ) → AtEnd r g v reg true → holds_in t₁.degrees t₁.sides t₁.ends t₁.labels (length es₁) label v ≡ has label (inner_labels r (chain_at r v))
    unfolding inner_labels
    holds_is label e = here (ℕ_discrete (label_of r v) label) ∙ all
      where
        all : has label (map (label_of r) (v ∷ map at_of (once_round es₁ high v))) ≡ has label (map (label_of r) (chain_of es₁ (chain_at r v)).inner)
        all =
            has_same label _ _ (map_in (label_of r) _ _ (λ w m. to_own w (only_met r g v reg true e w m)))
            (map_in (label_of r) _ _ (λ w m. all_met r g v reg true e w (from_own w m)))

        own_v : label_of r v ≡ get_or t₁.labels v 0
        own_v = ap (λ (ls : List ℕ). get_or ls v 0) (sym (labels_are r g label))

        here : Dec (label_of r v ≡ label) → holds_in t₁.degrees t₁.sides t₁.ends t₁.labels (length es₁) label v ≡ has label (map (label_of r) (v ∷ map at_of (once_round es₁ high v)))
        here (yes q) =
            sym (holds_self t₁.degrees t₁.sides t₁.ends t₁.labels (length es₁) label v (label_of r v) own_v q)
            ∙ sym (has_here label (label_of r v) _ q)
        here (no q) =
            sym (holds_above t₁.degrees t₁.sides t₁.ends t₁.labels (length es₁) label v (label_of r v) own_v high next_up _ q (sym high_is) (sym (far_is r high v at_high.inside)) refl)
            ∙ walked label
            ∙ sym (has_next label (label_of r v) _ q)

    neighbour : LowNeighbour r (proper r g) (chain_at r v) v
    neighbour = low_neighbour r (proper r g) (sided r g) (chain_at r v) own.inside v reg own.has

    own_taken : Taken r (chain_at r v)
    own_taken = in_newest r (founded r g) facts (chain_at r v) (own_newest r (founded r g) facts v reg)

    -- v is the lowest of its chain, or not
    data Decided : Type 0 where
      is_lowest : is_lowest_in t₁.sides t₁.ends t₁.labels v ≡ true → LowestHere v → AtEnd r g v reg true → Decided
      not_lowest : is_lowest_in t₁.sides t₁.ends t₁.labels v ≡ false → (LowestHere v → ⊥) → Decided

    decided : Decided
    decided = go neighbour
      where
        some_label : eqb (label_of r v) 0 ≡ false
        some_label = ne_eqb (label_of r v) 0 (λ e. omega (arith, facts.not_zero v (is_two es₁ v reg)))

        here : ((w : ℕ) → Mem w (chain_of es₁ (chain_at r v)).inner → label_of r v ≤ label_of r w) → LowestHere v
        here all =
            record {
              regular = reg;
              wears = omega (arith, lowest_most r (proper r g) (chain_at r v) v own.has, all own_taken.vertex own_taken.in_it, own_taken.wears);
            }

        ways : (is_regular es₁ home ≡ false) ⊎ (edge_on_ring es₁ (chain_at r v) ≡ true) → AtEnd r g v reg true
        ways (inl s) = inl (rw turned_low.again s)
        ways (inr s) = inr (ring_again es₁ (proper r g) high (chain_at r v) own.inside s high_on).ring

        worn : 1 ≤ label_of r v
        worn = facts.not_zero v (is_two es₁ v reg)

        go : LowNeighbour r (proper r g) (chain_at r v) v → Decided
        go (lowest all (inl s)) =
            is_lowest (lowest_reads ∙ rw (some_label, eq-eqb (min (label_of r v) (label_of r home)) 0 (omega (arith, facts.singular_zero home s)))) (here all) (ways (inl s))
        go (lowest all (inr s)) =
            is_lowest (lowest_reads ∙ rw (some_label, ne_eqb (min (label_of r v) (label_of r home)) 0 (λ e. omega (arith, s.1, worn)), lt-ltb (label_of r v) (max (label_of r v) (label_of r home)) (omega (arith, s.1)))) (here all)
            (ways (inr s.0))
        go (above m e) =
            let p : 1 ≤ label_of r home = facts.not_zero home (is_two es₁ home (inner_regular r (proper r g) (chain_at r v) home own.inside m)) in
            not_lowest (lowest_reads ∙ rw (some_label, ne_eqb (min (label_of r v) (label_of r home)) 0 (λ z. omega (arith, worn, p)), le-ltb (label_of r v) (max (label_of r v) (label_of r home)) (omega (arith, e))))
            (λ l. omega (arith, l.wears, lowest_most r (proper r g) (chain_at r v) home m))

  -- ---- the chains that are left

  abbrev n : ℕ
  n = r.vertices

  -- vertex v by the tables, and by its chain
  record Low (v : ℕ) : Type 0 where
    regular : is_regular es₁ v ≡ true
    lowest_here : LowestHere v
    at_end : AtEnd r g v regular true

  low_is : (v : ℕ) → is_lowest_in t₁.sides t₁.ends t₁.labels v ≡ true → Low v
  low_is v t = go (true_or_false (is_regular es₁ v))
    where
      by : (reg : is_regular es₁ v ≡ true) → Decided v reg → Low v
      by reg (is_lowest q l w) = record { regular = reg; lowest_here = l; at_end = w }
      by reg (not_lowest q bar) = absurd (not_both (is_lowest_in t₁.sides t₁.ends t₁.labels v) t q)

      go : (is_regular es₁ v ≡ true) ⊎ (is_regular es₁ v ≡ false) → Low v
      go (inl reg) = by reg (decided v reg)
      go (inr sing) =
          let bare : is_lowest_in t₁.sides t₁.ends t₁.labels v ≡ false = sym (lowest_bare t₁.sides t₁.ends t₁.labels v 0 (sym (ap (λ (ls : List ℕ). get_or ls v 0) (labels_are r g 0) ∙ facts.singular_zero v sing)) refl) in
          absurd (not_both (is_lowest_in t₁.sides t₁.ends t₁.labels v) t bare)

  is_low : (v : ℕ) → LowestHere v → is_lowest_in t₁.sides t₁.ends t₁.labels v ≡ true
  is_low v l = go (decided v l.regular)
    where
      go : Decided v l.regular → is_lowest_in t₁.sides t₁.ends t₁.labels v ≡ true
      go (is_lowest q l' w) = q
      go (not_lowest q bar) = absurd (bar l)

  own_label : (v : ℕ) → get_or t₁.labels v 0 ≡ label_of r v
  own_label v = ap (λ (ls : List ℕ). get_or ls v 0) (labels_are r g 0)

  -- those with a lowest label below the bound are left
  pub record Left (bound : ℕ) (ds : List ℕ) : Type 0 where
    below : (d : ℕ) → Mem d ds → lowest_label r d < bound
    there : (d : ℕ) → Mem d (newest r (founded r g) facts) → lowest_label r d < bound → Mem d ds

  -- the best is the lowest vertex of the first chain that is left
  record Top (bound d : ℕ) : Type 0 where
    vertex : ℕ
    inside : vertex < n
    first_is : best_in t₁.sides t₁.ends t₁.labels bound n ≡ suc vertex
    is_lowest : is_lowest_in t₁.sides t₁.ends t₁.labels vertex ≡ true
    low_bound : get_or t₁.labels vertex 0 < bound
    regular : is_regular es₁ vertex ≡ true
    lowest_here : LowestHere vertex
    at_end : AtEnd r g vertex regular true
    chain_is : chain_at r vertex ≡ d

  module _ (bound : ℕ) where
    best : Best t₁.sides t₁.ends t₁.labels bound n (best_in t₁.sides t₁.ends t₁.labels bound n)
    best = best_is t₁.sides t₁.ends t₁.labels bound n (omega (arith, few r g))

    -- the chain of a lowest vertex with a label below the bound
    left_there : (ds : List ℕ) → Left bound ds → (v : ℕ) → Low v → get_or t₁.labels v 0 < bound → Mem (chain_at r v) ds
    left_there ds s v l h = s.there (chain_at r v) (own_newest r (founded r g) facts v l.regular) (omega (arith, h, own_label v, l.lowest_here.wears))

    nobody_left : Left bound [] → best_in t₁.sides t₁.ends t₁.labels bound n ≡ 0
    nobody_left s = go best
      where
        go : Best t₁.sides t₁.ends t₁.labels bound n (best_in t₁.sides t₁.ends t₁.labels bound n) → best_in t₁.sides t₁.ends t₁.labels bound n ≡ 0
        go (nobody e bar) = e
        go (somebody v e h t l most) = absurd (mem-nil (left_there [] s v (low_is v t) l))

    top : (d : ℕ) (ds : List ℕ) → Falling r (d ∷ ds) → Taken r d → Left bound (d ∷ ds) → Top bound d
    top d ds f k s = go best
      where
        u : ℕ
        u = k.vertex

        reg_u : is_regular es₁ u ≡ true
        reg_u = inner_regular r (proper r g) d u k.inside k.in_it

        chain_u : chain_at r u ≡ d
        chain_u = sym (own_is r (proper r g) d u k.inside k.names k.in_it)

        low_u : is_lowest_in t₁.sides t₁.ends t₁.labels u ≡ true
        low_u = is_low u (record { regular = reg_u; wears = k.wears ∙ ap (lowest_label r) (sym chain_u) })

        u_inside : u < n
        u_inside = regular_landed r (founded r g) u reg_u

        u_below : get_or t₁.labels u 0 < bound
        u_below = omega (arith, own_label u, k.wears, s.below d (at_head refl))

        go : Best t₁.sides t₁.ends t₁.labels bound n (best_in t₁.sides t₁.ends t₁.labels bound n) → Top bound d
        go (nobody e bar) = absurd (bar u u_inside low_u u_below)
        go (somebody v e h t l most) = by (mem-cases (left_there (d ∷ ds) s v (low_is v t) l))
          where
            low_v : Low v
            low_v = low_is v t

            by : (chain_at r v ≡ d) ⊎ Mem (chain_at r v) ds → Top bound d
            by (inl i) =
                record {
                  vertex = v;
                  inside = h;
                  first_is = e;
                  is_lowest = t;
                  low_bound = l;
                  regular = low_v.regular;
                  lowest_here = low_v.lowest_here;
                  at_end = low_v.at_end;
                  chain_is = i;
                }
            by (inr i) = absurd (omega (arith, f.0 (chain_at r v) i, low_v.lowest_here.wears, k.wears, own_label u, own_label v, most u u_inside low_u u_below))

    -- without it the others are left
    next : (d : ℕ) (ds : List ℕ) → Falling r (d ∷ ds) → (t : Top bound d) → Left bound (d ∷ ds) → Left (get_or t₁.labels t.vertex 0) ds
    next d ds f t s =
        record {
          below = λ c m. omega (arith, own, f.0 c m);
          there = λ c m h. by c h (mem-cases (s.there c m (omega (arith, h, t.low_bound))));
        }
      where
        own : get_or t₁.labels t.vertex 0 ≡ lowest_label r d
        own = own_label t.vertex ∙ t.lowest_here.wears ∙ ap (lowest_label r) t.chain_is

        by : (c : ℕ) → lowest_label r c < get_or t₁.labels t.vertex 0 → (c ≡ d) ⊎ Mem c ds → Mem c ds
        by c h (inr m) = m
        by c h (inl e) =
            let h' : lowest_label r d < get_or t₁.labels t.vertex 0 = rw e at h in
            absurd (omega (arith, h', own))

  -- 1 for a lowest vertex with a label below the bound
  hit_below : ℕ → ℕ → ℕ
  hit_below bound v = if is_lowest_in t₁.sides t₁.ends t₁.labels v && ltb (get_or t₁.labels v 0) bound then 1 else 0

  hit_within : (b c v : ℕ) → b ≤ c → hit_below b v ≤ hit_below c v
  unfolding hit_below
  hit_within b c v h = go (is_lowest_in t₁.sides t₁.ends t₁.labels v) (true_or_false (ltb (get_or t₁.labels v 0) b))
    where
      go : (t : Bool) → (ltb (get_or t₁.labels v 0) b ≡ true) ⊎ (ltb (get_or t₁.labels v 0) b ≡ false)
          → (if t && ltb (get_or t₁.labels v 0) b then 1 else 0) ≤ (if t && ltb (get_or t₁.labels v 0) c then 1 else 0)
      go false q = omega arith
      go true (inr q) = rw q (omega arith)
      go true (inl q) = rw (q, lt-ltb (get_or t₁.labels v 0) c (omega (arith, ltb-true (get_or t₁.labels v 0) b q, h))) (omega arith)

  hits_most : (b k : ℕ) → total k (hit_below b) ≤ lowests_in t₁.sides t₁.ends t₁.labels k
  unfolding hit_below total lowests_in
  hits_most b zero = omega arith
  hits_most b (suc k) = go (is_lowest_in t₁.sides t₁.ends t₁.labels k) (ltb (get_or t₁.labels k 0) b) (hits_most b k)
    where
      go : (t u : Bool) → total k (hit_below b) ≤ lowests_in t₁.sides t₁.ends t₁.labels k
          → total k (hit_below b) + (if t && u then 1 else 0) ≤ lowests_in t₁.sides t₁.ends t₁.labels k + (if t then 1 else 0)
      go true true ih = omega (arith, ih)
      go true false ih = omega (arith, ih)
      go false u ih = omega (arith, ih)

  fewer : (bound d : ℕ) (t : Top bound d) → total n (hit_below (get_or t₁.labels t.vertex 0)) < total n (hit_below bound)
  unfolding hit_below
  fewer bound d t =
      let v : ℕ = t.vertex in
      let zero_now : hit_below (get_or t₁.labels t.vertex 0) t.vertex ≡ 0 = rw (t.is_lowest, le-ltb (get_or t₁.labels t.vertex 0) (get_or t₁.labels t.vertex 0) (omega arith)) in
      let one_before : hit_below bound t.vertex ≡ 1 = rw (t.is_lowest, lt-ltb (get_or t₁.labels t.vertex 0) bound t.low_bound) in
      total_less n t.vertex (hit_below (get_or t₁.labels t.vertex 0)) (hit_below bound) t.inside
      (λ w h. hit_within (get_or t₁.labels t.vertex 0) bound w (omega (arith, t.low_bound))) (omega (arith, zero_now, one_before))

  -- ---- one taken after the other

  -- nobody, or the lowest vertex of the chain or ring that is named, which holds the label
  abbrev Holder : ℕ → ℕ → Option ℕ → Type 0
  Holder label zero o = o ≡ none
  Holder label (suc v) o = Low v × ((o ≡ some (chain_at r v)) × (has label (inner_labels r (chain_at r v)) ≡ true))

  record Takes (label : ℕ) (h : Held) (q : Searched) : Type 0 where
    taken_is : h.taken ≡ q.taken
    holder_is : Holder label h.holder q.holder

  module _ (label : ℕ) where
    abbrev take_over : ℕ → ℕ → Held
    take_over = take_in t₁.degrees t₁.sides t₁.ends t₁.labels n (length es₁) label

    abbrev holds_over : ℕ → Bool
    holds_over = holds_in t₁.degrees t₁.sides t₁.ends t₁.labels (length es₁) label

    among_nobody : search_among r label [] ≡ record { holder = none; taken = 0 }
    unfolding search_among
    among_nobody = refl

    among_held : (d : ℕ) (ds : List ℕ) → has label (inner_labels r d) ≡ true → search_among r label (d ∷ ds) ≡ record { holder = some d; taken = 1 }
    unfolding search_among
    among_held d ds e = rw (e, search_among)

    among_next : (d : ℕ) (ds : List ℕ) → has label (inner_labels r d) ≡ false
        → search_among r label (d ∷ ds) ≡ record { holder = (search_among r label ds).holder; taken = suc (search_among r label ds).taken }
    unfolding search_among
    among_next d ds e = rw (e, search_among)

    takes_none : (h : Held) (q : Searched) → h ≡ held 0 0 → q ≡ record { holder = none; taken = 0 } → Takes label h q
    takes_none h q a b = rw (a, b) (record { taken_is = refl; holder_is = refl })

    takes_after : (h : Held) (q : Searched) → Takes label h q → Takes label (held_after 1 h) (record { holder = q.holder; taken = suc q.taken })
    unfolding held_after
    takes_after h q a = record { taken_is = omega (arith, a.taken_is); holder_is = a.holder_is }

    takes : (k bound : ℕ) (ds : List ℕ) → total n (hit_below bound) ≤ k → Falling r ds → ((d : ℕ) → Mem d ds → Taken r d) → Left bound ds → Takes label (take_over k bound) (search_among r label ds)
    takes k bound [] h f own s =
        takes_none _ _ (take_nobody t₁.degrees t₁.sides t₁.ends t₁.labels n (length es₁) label k bound (nobody_left bound s)) among_nobody
    takes zero bound (d ∷ ds) h f own s = absurd (omega (arith, h, fewer bound d (top bound d ds f (own d (at_head refl)) s)))
    takes (suc j) bound (d ∷ ds) h f own s =
        let t : Top bound d = top bound d ds f (own d (at_head refl)) s in
        go t (true_or_false (has label (inner_labels r d)))
        (takes j (get_or t₁.labels t.vertex 0) ds (omega (arith, h, fewer bound d t)) f.1 (λ c m. own c (in_Tail m)) (next bound d ds f t s))
      where
        holds : (t : Top bound d) → holds_over t.vertex ≡ has label (inner_labels r d)
        holds t = holds_is t.vertex t.regular label t.at_end ∙ ap (λ (c : ℕ). has label (inner_labels r c)) t.chain_is

        go : (t : Top bound d) → (has label (inner_labels r d) ≡ true) ⊎ (has label (inner_labels r d) ≡ false)
            → Takes label (take_over j (get_or t₁.labels t.vertex 0)) (search_among r label ds) → Takes label (take_over (suc j) bound) (search_among r label (d ∷ ds))
        go t (inl e) ih =
            rw (take_some t₁.degrees t₁.sides t₁.ends t₁.labels n (length es₁) label j bound t.vertex t.first_is (holds t ∙ e), among_held d ds e)
            (record {
              taken_is = refl;
              holder_is = (record { regular = t.regular; lowest_here = t.lowest_here; at_end = t.at_end }, (ap some (sym t.chain_is), ap (λ (c : ℕ). has label (inner_labels r c)) t.chain_is ∙ e));
            })
        go t (inr e) ih =
            rw (take_none t₁.degrees t₁.sides t₁.ends t₁.labels n (length es₁) label j bound t.vertex t.first_is (holds t ∙ e), among_next d ds e)
            (takes_after _ _ ih)

  -- before the first is taken all are left
  pub all_left : Left no_bound (newest r (founded r g) facts)
  all_left = record { below = λ d m. small d (in_newest r (founded r g) facts d m); there = λ d m h. m }
    where
      small : (d : ℕ) → Taken r d → lowest_label r d < no_bound
      small d k = omega (arith, k.wears, labels_small r g k.vertex)

  -- ---- the newest chain has the greatest label

  -- a chain wears every label between its lowest and one that it wears
  between : (d v x k : ℕ) → Taken r d → Mem v (chain_of es₁ d).inner → lowest_label r d ≤ x → label_of r v ≡ x + k → (w : ℕ) × (Mem w (chain_of es₁ d).inner × (label_of r w ≡ x))
  between d v x zero own m l e = (v, (m, omega (arith, e)))
  between d v x (suc k) own m l e =
      go (low_neighbour r (proper r g) (sided r g) d own.inside v (inner_regular r (proper r g) d v own.inside m) m) (λ w h q. between d w x k own h l q)
    where
      go : LowNeighbour r (proper r g) d v → ((w : ℕ) → Mem w (chain_of es₁ d).inner → label_of r w ≡ x + k → (u : ℕ) × (Mem u (chain_of es₁ d).inner × (label_of r u ≡ x)))
          → (u : ℕ) × (Mem u (chain_of es₁ d).inner × (label_of r u ≡ x))
      go (lowest all s) ih = absurd (omega (arith, all own.vertex own.in_it, own.wears, e, l))
      go (above h q) ih = ih _ h (omega (arith, q, e))

  abbrev topmost : ℕ
  topmost = top_in (tables_of r).labels r.vertices

  greatest : (v : ℕ) → is_regular es₁ v ≡ true → label_of r v ≤ label_of r topmost
  greatest v q = omega (arith, own_label v, own_label topmost, top_most t₁.labels n v (regular_landed r (founded r g) v q))

  -- nobody has a label
  bare : (ds : List ℕ) → ((d : ℕ) → Mem d ds → Taken r d) → label_of r topmost ≡ 0 → ds ≡ []
  bare [] own z = refl
  bare (d ∷ ds) own z =
      let k : Taken r d = own d (at_head refl) in
      let q : is_regular es₁ k.vertex ≡ true = inner_regular r (proper r g) d k.vertex k.inside k.in_it in
      absurd (omega (arith, greatest k.vertex q, facts.not_zero k.vertex (is_two es₁ k.vertex q), z))

  module _ (some_label : label_of r topmost ≢ 0) where
    top_regular : is_regular es₁ topmost ≡ true
    top_regular = go (true_or_false (is_regular es₁ topmost))
      where
        go : (is_regular es₁ topmost ≡ true) ⊎ (is_regular es₁ topmost ≡ false) → is_regular es₁ topmost ≡ true
        go (inl q) = q
        go (inr q) = absurd (some_label (facts.singular_zero topmost q))

    abbrev newest_name : ℕ
    newest_name = chain_at r topmost

    top_own : OwnChain es₁ topmost newest_name
    top_own = own topmost top_regular

    -- it is next to the high end of its chain, or on a ring
    top_end : AtEnd r g topmost top_regular false
    unfolding low_at label_at marks_of
    top_end = go (true_or_false (is_regular es₁ (far es₁ (high topmost top_regular) topmost)))
      where
        go : (is_regular es₁ (far es₁ (high topmost top_regular) topmost) ≡ true) ⊎ (is_regular es₁ (far es₁ (high topmost top_regular) topmost) ≡ false) → AtEnd r g topmost top_regular false
        go (inr q) = inl q
        go (inl q) =
            on ((sided r g).steps topmost w (high topmost top_regular)
            (record {
              first_two = is_two es₁ topmost top_regular;
              second_two = is_two es₁ w q;
              first_at = at_high topmost top_regular;
              second_at = (across es₁ (high topmost top_regular) topmost (proper r g) (at_high topmost top_regular)).at;
              differ = λ e. far_ne es₁ (high topmost top_regular) topmost (proper r g) (at_high topmost top_regular) (sym e);
            }))
          where
            w : ℕ
            w = far es₁ (high topmost top_regular) topmost

            on : Step es₁ (marks_of r) topmost (far es₁ (high topmost top_regular) topmost) (high topmost top_regular) → AtEnd r g topmost top_regular false
            on (rises (up_to i j e)) = absurd (omega (arith, e, greatest w q))
            on (rises (down_to i j e)) = absurd ((turned_low topmost top_regular).other (sym i))
            on (seam s l) =
                inr (ring_both es₁ (proper r g) (high topmost top_regular) (low topmost top_regular) topmost top_regular (at_high topmost top_regular) (at_low topmost top_regular) s.on_ring)

    -- its chain is the first
    first_one : (d : ℕ) (ds : List ℕ) → Falling r (d ∷ ds) → ((c : ℕ) → Mem c (d ∷ ds) → Taken r c) → Mem newest_name (d ∷ ds) → newest_name ≡ d
    first_one d ds f own m = go (mem-cases m)
      where
        go : (newest_name ≡ d) ⊎ Mem newest_name ds → newest_name ≡ d
        go (inl e) = e
        go (inr h) =
            let k : Taken r d = own d (at_head refl) in
            let u : ℕ = k.vertex in
            let reg_u : is_regular es₁ u ≡ true = inner_regular r (proper r g) d u k.inside k.in_it in
            let less : lowest_label r newest_name < lowest_label r d = f.0 newest_name h in
            let b = between newest_name topmost (lowest_label r d) (label_of r topmost - lowest_label r d) (own newest_name m) top_own.has (omega (arith, less)) (omega (arith, greatest u reg_u, k.wears)) in
            let reg_w : is_regular es₁ b.0 ≡ true = inner_regular r (proper r g) newest_name b.0 top_own.inside b.1.0 in
            let same : b.0 ≡ u = facts.unique b.0 u (is_two es₁ b.0 reg_w) (is_two es₁ u reg_u) (b.1.1 ∙ sym k.wears) in
            own_is r (proper r g) newest_name b.0 top_own.inside top_own.names b.1.0 ∙ ap (chain_at r) same ∙ sym (own_is r (proper r g) d u k.inside k.names k.in_it)

    -- the vertices of its chain, by the edge along which the walk leaves it
    to_newest : (w : ℕ) → Mem w (chain_of es₁ (low topmost top_regular)).inner → Mem w (chain_of es₁ newest_name).inner
    to_newest w m = inner_same newest_name (low topmost top_regular) w top_own.inside (at_low topmost top_regular).inside (low_on topmost top_regular) m

    from_newest : (w : ℕ) → Mem w (chain_of es₁ newest_name).inner → Mem w (chain_of es₁ (low topmost top_regular)).inner
    from_newest w m =
        inner_same (low topmost top_regular) newest_name w (at_low topmost top_regular).inside top_own.inside
        (chain_back es₁ (proper r g) (low topmost top_regular) newest_name top_own.inside (low_on topmost top_regular)) m

  -- ---- the search

  -- nobody, or what is told of a regular vertex of the chain or ring that is named, which wears the label
  abbrev pub Told : ℕ → Option Reply → Option ℕ → Type 0
  Told label none o = o ≡ none
  Told label (some a) o = (v : ℕ) × ((is_regular es₁ v ≡ true) × ((label_of r v ≡ label) × ((a ≡ found_at r v) × (o ≡ some (chain_at r v)))))

  pub record Agrees (label : ℕ) (s : Sought) (q : Searched) : Type 0 where
    pub taken_is : s.taken ≡ q.taken
    pub found_is : Told label s.found q.holder

  module _ (label : ℕ) where
    -- a vertex of a chain that holds the label
    wearer : (d : ℕ) → d < length es₁ → has label (inner_labels r d) ≡ true → (w : ℕ) × (Mem w (chain_of es₁ d).inner × ((is_regular es₁ w ≡ true) × (label_of r w ≡ label)))
    unfolding inner_labels
    wearer d h e =
        let o = Memᴰ.of_map (label_of r) (chain_of es₁ d).inner (has_mem label (inner_labels r d) e) in
        (o.0, (o.1, (inner_regular r (proper r g) d o.0 h o.1, o.2)))

    none_wears : (d : ℕ) → has label (inner_labels r d) ≡ false → (w : ℕ) → Mem w (chain_of es₁ d).inner → label_of r w ≢ label
    unfolding inner_labels
    none_wears d e w m l =
        let k : Mem label (inner_labels r d) = rw (← l) (Memᴰ.map (label_of r) m) in
        not_both (has label (inner_labels r d)) (mem_has label (inner_labels r d) k) e

    abbrev pub search_over : Sought
    search_over = search_in t₁.degrees t₁.sides t₁.ends t₁.lengths t₁.labels n (length es₁) label

    abbrev rest_over : Held
    rest_over = rest_in t₁.degrees t₁.sides t₁.ends t₁.labels n (length es₁) label

    -- the one that holds it is looked through upwards
    tells : (h : Held) (q : Searched) → Takes label h q → Agrees label (told_of t₁.degrees t₁.sides t₁.ends t₁.lengths t₁.labels (length es₁) label h) q
    unfolding told_of
    tells h q a = go h.holder refl a.holder_is
      where
        go : (x : ℕ) → h.holder ≡ x → Holder label h.holder q.holder → Agrees label (told_of t₁.degrees t₁.sides t₁.ends t₁.lengths t₁.labels (length es₁) label h) q
        go zero e o = by (subst (λ (y : ℕ). Holder label y q.holder) e o)
          where
            by : q.holder ≡ none → Agrees label (told_of t₁.degrees t₁.sides t₁.ends t₁.lengths t₁.labels (length es₁) label h) q
            by p = rw e (record { taken_is = a.taken_is; found_is = p })
        go (suc v) e o = by (subst (λ (y : ℕ). Holder label y q.holder) e o)
          where
            by : Low v × ((q.holder ≡ some (chain_at r v)) × (has label (inner_labels r (chain_at r v)) ≡ true)) → Agrees label (told_of t₁.degrees t₁.sides t₁.ends t₁.lengths t₁.labels (length es₁) label h) q
            by p =
                let k : Low v = p.0 in
                let o = own v k.regular in
                let w = wearer (chain_at r v) o.inside p.1.1 in
                let s : through_over r g v k.regular label true ≡ some (found_at r w.0) = through_some r g v k.regular label true k.at_end w.0 (from_own v k.regular w.0 w.1.0) w.1.1.1 in
                rw (e, s)
                (record { taken_is = a.taken_is; found_is = (w.0, (w.1.1.0, (w.1.1.1, (refl, p.1.0 ∙ ap some (own_is r (proper r g) (chain_at r v) w.0 o.inside o.names w.1.0))))) })

    pub searched : (ds : List ℕ) → Falling r ds → ((d : ℕ) → Mem d ds → Taken r d) → Left no_bound ds → ((v : ℕ) → is_regular es₁ v ≡ true → Mem (chain_at r v) ds) → Agrees label search_over (search_among r label ds)
    unfolding rest_in key_in
    searched ds f own s all = go (ℕ_discrete (label_of r topmost) 0)
      where
        own_top : label_of r topmost ≡ get_or t₁.labels topmost 0
        own_top = sym (own_label topmost)

        go : Dec (label_of r topmost ≡ 0) → Agrees label search_over (search_among r label ds)
        go (yes z) =
            rw (← search_bare t₁.degrees t₁.sides t₁.ends t₁.lengths t₁.labels n (length es₁) label topmost (label_of r topmost) refl own_top z, bare ds own z, among_nobody label)
            (record { taken_is = refl; found_is = refl })
        go (no z) = by ds f own s (all topmost (top_regular z))
          where
            first : (d : ℕ) (ds : List ℕ) → newest_name z ≡ d → (has label (inner_labels r d) ≡ true) → Agrees label search_over (search_among r label (d ∷ ds))
            first d ds e h =
                let c : has label (inner_labels r (newest_name z)) ≡ true = rw e h in
                let w = wearer (newest_name z) (top_own z).inside c in
                let p : through_over r g topmost (top_regular z) label false ≡ some (found_at r w.0) = through_some r g topmost (top_regular z) label false (top_end z) w.0 (from_newest z w.0 w.1.0) w.1.1.1 in
                rw (← search_first t₁.degrees t₁.sides t₁.ends t₁.lengths t₁.labels n (length es₁) label topmost (label_of r topmost) refl own_top z (some (found_at r w.0)) (sym p) (found_at r w.0) refl, among_held label d ds h)
                (record { taken_is = refl; found_is = (w.0, (w.1.1.0, (w.1.1.1, (refl, ap some (sym e ∙ own_is r (proper r g) (newest_name z) w.0 (top_own z).inside (top_own z).names w.1.0))))) })

            others : (d : ℕ) (ds : List ℕ) → newest_name z ≡ d → Falling r (d ∷ ds) → ((c : ℕ) → Mem c (d ∷ ds) → Taken r c) → Left no_bound (d ∷ ds) → (has label (inner_labels r d) ≡ false)
                → Agrees label search_over (search_among r label (d ∷ ds))
            others d ds e f own s h =
                let c : has label (inner_labels r (newest_name z)) ≡ false = rw e h in
                let p : through_over r g topmost (top_regular z) label false ≡ none = through_none r g topmost (top_regular z) label false (top_end z) (λ u m. none_wears (newest_name z) c u (to_newest z u m)) in
                let t : Top no_bound d = top no_bound d ds f (own d (at_head refl)) s in
                let k : Takes label (take_over label (lowests_in t₁.sides t₁.ends t₁.labels n - 1) (get_or t₁.labels t.vertex 0)) (search_among r label ds) =
                takes label (lowests_in t₁.sides t₁.ends t₁.labels n - 1) (get_or t₁.labels t.vertex 0) ds (omega (arith, fewer no_bound d t, hits_most no_bound n)) f.1 (λ c m. own c (in_Tail m)) (next no_bound d ds f t s) in
                let b : rest_over ≡ take_over label (lowests_in t₁.sides t₁.ends t₁.labels n - 1) (get_or t₁.labels t.vertex 0) = rw t.first_is in
                rw (← search_rest t₁.degrees t₁.sides t₁.ends t₁.lengths t₁.labels n (length es₁) label topmost (label_of r topmost) refl own_top z none (sym p) (held_after 1 rest_over) _ refl refl refl, among_next label d ds h, b)
                (tells _ _ (takes_after label _ _ k))

            by : (ds : List ℕ) → Falling r ds → ((d : ℕ) → Mem d ds → Taken r d) → Left no_bound ds → Mem (newest_name z) ds → Agrees label search_over (search_among r label ds)
            by [] f own s m = absurd (mem-nil m)
            by (d ∷ ds) f own s m = on (true_or_false (has label (inner_labels r d)))
              where
                e : newest_name z ≡ d
                e = first_one z d ds f own m

                on : (has label (inner_labels r d) ≡ true) ⊎ (has label (inner_labels r d) ≡ false) → Agrees label search_over (search_among r label (d ∷ ds))
                on (inl h) = first d ds e h
                on (inr h) = others d ds e f own s h
