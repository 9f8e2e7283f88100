-- A chain or ring looked through over the tables: one walk from its vertex with the lowest or the highest label tells of the vertex that wears
-- the label what the definitions tell of it, or that none does.
use mathlib.Core.Path.{◌≡◌, refl, sym, ap, ◌∙◌, subst}
use mathlib.Core.Logic.{◌≢◌, ◌⊎◌, inl, inr}
use Prim.Native.Nat.{ℕ, zero, suc, ◌+◌, ◌≤◌, ◌<◌, min}
use native.Mathlib.Omega.{arith}
use native.Mathlib.Nat.{add-zero}
use mathlib.Core.Bool.{Bool, true, false}
use mathlib.Core.Option.{Option, none, some}
use mathlib.Core.List.Memᴰ.{cases_cons as mem-cases}
use mathlib.Core.List.Memᴰ.{head as at_head}
use mathlib.Core.List.Memᴰ.{tail as in_Tail}
use mathlib.Core.List.{List, [], ◌∷◌, ◌++◌, map, reverse, reverse-reverse, map-append, Memᴰ as Mem}
use lib.ListN.{length, get_or}
use borrow.Author.Tests.{eq-eqb, ne_eqb}
use Rattle.model.specs.Basics.{least, sum}
use Rattle.model.specs.Graph.{Chain, Edge, Pass, after_of, at_of, chain_length, chain_of, edge_on_ring, end_of, far, is_regular, length_at, lengths_of, lower_numbered, name_of, once_round, onwards, turn, until, walk}
use Rattle.model.specs.Labels.{vertex_on_ring}
use Rattle.model.specs.Distance.{length_via}
use Rattle.model.specs.Register.{Register, label_of, low_edge_of, marks_of}
use Rattle.model.specs.Queries.{Reply, chain_at, found_at, length_to}
use Rattle.model.specs.Tables.{Tables, tables_of}
use Rattle.model.specs.Notions.{Reachable, SameChain, SameRing, reversed}
use Rattle.tables.specs.Steps.{more16, most32, sum32}
use Rattle.tables.proofs.Sums.{sum32_is}
use Rattle.chains.specs.Chains.{goes_on_in}
use Rattle.looking.specs.Looking.{Look, Seen, edge_towards, look, look_along_in, look_in, look_through_in, seen, told_in, with_edge}
use Rattle.looking.proofs.LookingLaws.{edge_before, edge_behind, look_on, look_stop, wearer_before, wearer_here, wearer_not}
use Rattle.model.proofs.Basics.Booleans.{not_both, true_or_false}
use Rattle.model.proofs.Basics.Lists.{mem_reverse, sum_append, sum_reverse}
use Rattle.model.proofs.Walks.Degree.{Proper, is_two}
use Rattle.model.proofs.Walks.Turn.{At, Turned, turn_between, turned, two_edges}
use Rattle.model.proofs.Walks.Joins.{Across, across, far_ne}
use Rattle.model.proofs.Walks.Trail.{Behind, Next, Trail, afters, behind_first, done, next_edge, pass, trail_at, trail_end_of, trail_walk}
use Rattle.model.proofs.Walks.Loops.{trail_between}
use Rattle.model.proofs.Walks.Ended.{Ended, trail_short}
use Rattle.model.proofs.Walks.Places.{Off, off_mem}
use Rattle.model.proofs.Walks.Returns.{ended_ring, off_ring, singular_ends}
use Rattle.model.proofs.Walks.Round.{Meets, Round, meets, meets_or, misses, ring_round}
use Rattle.model.proofs.Walks.Whole.{Onwards, onwards_ends}
use Rattle.model.proofs.Chains.Same.{Line, chain_of_line, line_chain, same_back, same_mem}
use Rattle.model.proofs.Chains.Partition.{chain_back, chain_has, chain_name, least_le, least_mem, name_in_chain, name_least, ring_again}
use Rattle.model.proofs.Chains.Own.{chain_inner, inner_chain, lower_at, ring_neither}
use Rattle.model.proofs.Chains.ExactRing.{loop_is_ring, ring_only, ring_from}
use Rattle.model.proofs.Chains.Reaches.{one_length, reaches_sum, ring_length}
use Rattle.model.proofs.Labels.Following.{low_at}
use Rattle.theory.proofs.Labels.Rise.{OneLow, first_low, second_low, step_low}
use Rattle.theory.proofs.Registers.Founded.{regular_landed}
use Rattle.theory.proofs.Registers.Labelled.{label_facts}
use Rattle.theory.proofs.Registers.Newest.{inner_regular}
use Rattle.theory.proofs.Registers.Sides.{sided}
use Rattle.theory.proofs.Registers.Small.{chains_small}
use Rattle.agreement.proofs.Lists.{PairAt}
use Rattle.agreement.proofs.Tables.{far_is, sides_linked}
use Rattle.agreement.proofs.Registers.{few, founded, landed_below, low_at_lem, proper}
use Rattle.agreement.proofs.Chaining.{First, Step, at_end, at_home, before_home, before_none, before_on, first_step, goes_home, goes_not, goes_on, length_is, lower, onward, steps}
use Rattle.agreement.proofs.Rounds.{other_read, round_open, two_read}
use Rattle.agreement.proofs.Lowest.{least_lower, lower_append, lower_min, lower_swap}

-- ---- what is known along some passes

unfoldable seen_by : List ℕ → List ℕ → ℕ → Seen → List Pass → Seen
seen_by lens ls label s [] = s
seen_by lens ls label s (p ∷ ps) = seen_by lens ls label (with_edge lens ls label s p.at p.after) ps

seen_append : (lens ls : List ℕ) (label : ℕ) (s : Seen) (ps qs : List Pass) → seen_by lens ls label s (ps ++ qs) ≡ seen_by lens ls label (seen_by lens ls label s ps) qs
unfolding seen_by
seen_append lens ls label s [] qs = refl
seen_append lens ls label s (p ∷ ps) qs = seen_append lens ls label (with_edge lens ls label s p.at p.after) ps qs

module _ (r : Register) (g : Reachable r) (label : ℕ) where
  abbrev es : List Edge
  es = r.edges

  abbrev t : Tables
  t = tables_of r

  abbrev look_over : ℕ → ℕ → Seen → ℕ → ℕ → Look
  look_over = look_in t.degrees t.sides t.ends t.lengths t.labels label

  abbrev seen_over : Seen → List Pass → Seen
  seen_over = seen_by t.lengths t.labels label

  -- the walk over the tables
  looks : (home n : ℕ) (s : Seen) (d v : ℕ) → At es v d
      → look_over home n s d v ≡ look (end_of es v (until home (walk n es d v))) (seen_over s (until home (walk n es d v)))
  unfolding look_in walk until end_of seen_by
  looks home zero s d v a = refl
  looks home (suc n) s d v a = go (first_step r home v) (λ u c at. looks home n u c (far es c v) at)
    where
      Goal : Type 0
      Goal = look_over home (suc n) s d v ≡ look (end_of es v (until home (walk (suc n) es d v))) (seen_over s (until home (walk (suc n) es d v)))

      stop : goes_on_in t.degrees home v ≡ false → until home (walk (suc n) es d v) ≡ [] → Goal
      stop q e = rw (e, ← look_stop t.degrees t.sides t.ends t.lengths t.labels label home (suc n) s d v q)

      go : First r home v
          → ((u : Seen) (c : ℕ) → At es (far es c v) c
          → look_over home n u c (far es c v) ≡ look (end_of es (far es c v) (until home (walk n es c (far es c v)))) (seen_over u (until home (walk n es c (far es c v))))) → Goal
      go (at_end q) ih = stop (goes_not r g home d v a q) (before_none home n es d v q)
      go (at_home q e) ih = stop (goes_home r g home d v a e) (before_home home n es d v q e)
      go (onward q e) ih =
          let c : ℕ = turn es d v in
          let y : Step r d v = steps r g d v a q in
          rw (
            before_on home n es d v q e,
            look_on t.degrees t.sides t.ends t.lengths t.labels label home n s d v c (far es c v) (goes_on r g home d v a q e) y.turns y.arrives,
          )
          (ih (with_edge t.lengths t.labels label s v c) c y.at)

  -- ---- the sums on a trail

  abbrev sum_of : List Pass → ℕ
  sum_of ss = sum (lengths_of es (afters ss))

  labels_are : t.labels ≡ r.labels
  unfolding tables_of
  labels_are = refl

  -- one edge more: before the wearer, from it on, and behind it
  module _ (v c : ℕ) (h : c < length es) where
    own_label : label_of r v ≡ get_or t.labels v 0
    own_label = ap (λ (ls : List ℕ). get_or ls v 0) (sym labels_are)

    edge_nobody : (b k y : ℕ) → label_of r v ≢ label → b + length_at es c ≤ most32
        → with_edge t.lengths t.labels label (seen 0 b k y) v c ≡ seen 0 (b + length_at es c) k (min c y)
    edge_nobody b k y n m =
        sym (edge_before t.lengths t.labels label 0 b k y v c 0 (length_at es c) (min c y) (wearer_not t.labels label 0 v (label_of r v) refl own_label n)
        (sym (length_is r c h)) refl (b + length_at es c) refl (sym (sum32_is b (length_at es c) m)))

    edge_wearer : (b y : ℕ) → label_of r v ≡ label → v < 65535 → length_at es c ≤ most32
        → with_edge t.lengths t.labels label (seen 0 b 0 y) v c ≡ seen (suc v) b (length_at es c) (min c y)
    unfolding more16
    edge_wearer b y e f m =
        sym (edge_behind t.lengths t.labels label 0 b 0 y v c (suc v) (length_at es c) (min c y)
        (wearer_here t.labels label 0 v (label_of r v) refl own_label (suc v) e (omega arith))
        (sym (length_is r c h)) refl (length_at es c) (λ z. omega arith) (omega (arith, sum32_is 0 (length_at es c) (omega arith))))

    edge_known : (w b k y : ℕ) → k + length_at es c ≤ most32
        → with_edge t.lengths t.labels label (seen (suc w) b k y) v c ≡ seen (suc w) b (k + length_at es c) (min c y)
    edge_known w b k y m =
        sym (edge_behind t.lengths t.labels label (suc w) b k y v c (suc w) (length_at es c) (min c y) (wearer_before t.labels label (suc w) v (λ z. omega arith))
        (sym (length_is r c h)) refl (k + length_at es c) (λ z. omega arith) (sym (sum32_is k (length_at es c) m)))

  pr : Proper es
  pr = proper r g

  nobody_on : {d x q z : ℕ} {ss : List Pass} → Trail es d x ss q z → At es x d → (b k y : ℕ) → ((u : ℕ) → Mem u (map at_of ss) → label_of r u ≢ label) → b + sum_of ss ≤ most32
      → seen_over (seen 0 b k y) ss ≡ seen 0 (b + sum_of ss) k (lower (afters ss) y)
  unfolding seen_by afters sum lengths_of lower at_of after_of pr
  nobody_on done a b k y n m = rw add-zero
  nobody_on {d} {x} (pass {ss = ss} c reg e u) a b k y n m =
      let nx : Next es d x c = next_edge es d x c pr a reg e in
      let i : b + length_at es c + sum_of ss ≡ b + (length_at es c + sum_of ss) = omega arith in
      rw (edge_nobody x c nx.at.inside b k y (n x (at_head refl)) (omega arith), nobody_on u nx.across.at (b + length_at es c) k (min c y) (λ w h. n w (in_Tail h)) (omega arith), i, lower_min (afters ss) y c)

  known_on : {d x q z : ℕ} {ss : List Pass} → Trail es d x ss q z → At es x d → (w b k y : ℕ) → k + sum_of ss ≤ most32
      → seen_over (seen (suc w) b k y) ss ≡ seen (suc w) b (k + sum_of ss) (lower (afters ss) y)
  unfolding seen_by afters sum lengths_of lower after_of pr
  known_on done a w b k y m = rw add-zero
  known_on {d} {x} (pass {ss = ss} c reg e u) a w b k y m =
      let nx : Next es d x c = next_edge es d x c pr a reg e in
      let i : k + length_at es c + sum_of ss ≡ k + (length_at es c + sum_of ss) = omega arith in
      rw (edge_known x c nx.at.inside w b k y (omega arith), known_on u nx.across.at w b (k + length_at es c) (min c y) (omega arith), i, lower_min (afters ss) y c)

  -- a trail that comes to the wearer and goes on along edge c
  met_on : {d x q z onto : ℕ} (front rest : List Pass) (w : ℕ) → Trail es d x front onto w → is_regular es w ≡ true
      → Trail es (turn es onto w) (far es (turn es onto w) w) rest q z → At es x d → Off front w → label_of r w ≡ label
      → ((u : ℕ) → is_regular es u ≡ true → label_of r u ≡ label → u ≡ w) → (y : ℕ) → sum_of front + (length_at es (turn es onto w) + sum_of rest) ≤ most32
      → seen_over (seen 0 0 0 y) (front ++ (record { before = onto; at = w; after = turn es onto w } ∷ rest))
      ≡ seen (suc w) (sum_of front) (length_at es (turn es onto w) + sum_of rest) (lower (afters rest) (min (turn es onto w) (lower (afters front) y)))
  unfolding seen_by
  met_on {onto = onto} front rest w u reg b a off l only y m =
      let c : ℕ = turn es onto w in
      let nx : Next es onto w c = next_edge es onto w c pr (trail_at pr a u) reg refl in
      let others : (v : ℕ) → Mem v (map at_of front) → label_of r v ≢ label = λ v n e. off_mem front w off (subst (λ (o : ℕ). Mem o (map at_of front)) (only v (trail_between u v n) e) n) in
      let few_w : w < 65535 = omega (arith, regular_landed r (founded r g) w reg, few r g) in
      let z : 0 + sum_of front ≡ sum_of front = omega arith in
      seen_append t.lengths t.labels label (seen 0 0 0 y) front (record { before = onto; at = w; after = turn es onto w } ∷ rest)
      ∙ ap (λ (k : Seen). seen_over k (record { before = onto; at = w; after = turn es onto w } ∷ rest)) (nobody_on u a 0 0 y others (omega arith))
      ∙ ap (λ (k : Seen). seen_over k rest) (ap (λ (b : ℕ). with_edge t.lengths t.labels label (seen 0 b 0 (lower (afters front) y)) w c) z
      ∙ edge_wearer w c nx.at.inside (sum_of front) (lower (afters front) y) l few_w (omega arith))
      ∙ known_on b nx.across.at w (sum_of front) (length_at es c) (min c (lower (afters front) y)) (omega arith)

-- ---- upwards or downwards

module _ (r : Register) (g : Reachable r) where
  abbrev es₁ : List Edge
  es₁ = r.edges

  -- who came along edge d to a regular vertex x came up to it, or down
  abbrev Facing : Bool → ℕ → ℕ → Type 0
  Facing true d x = is_regular es₁ x ≡ true → low_edge_of r x ≡ d
  Facing false d x = is_regular es₁ x ≡ true → low_edge_of r x ≢ d

  -- and goes on so
  faces_on : (up : Bool) (d x : ℕ) → At es₁ x d → is_regular es₁ x ≡ true → Facing up d x → Facing up (turn es₁ d x) (far es₁ (turn es₁ d x) x)
  unfolding low_at marks_of
  faces_on up d x a reg f = go up f
    where
      c : ℕ
      c = turn es₁ d x

      nx : Next es₁ d x (turn es₁ d x)
      nx = next_edge es₁ d x (turn es₁ d x) (proper r g) a reg refl

      one_low : is_regular es₁ (far es₁ (turn es₁ d x) x) ≡ true → OneLow (marks_of r) x (far es₁ (turn es₁ d x) x) (turn es₁ d x)
      one_low q =
          step_low ((sided r g).steps x (far es₁ c x) c
          (record { first_two = is_two es₁ x reg; second_two = is_two es₁ (far es₁ c x) q; first_at = nx.at; second_at = nx.across.at; differ = λ e. far_ne es₁ c x (proper r g) nx.at (sym e) }))

      up_on : low_edge_of r x ≡ d → OneLow (marks_of r) x (far es₁ (turn es₁ d x) x) (turn es₁ d x) → low_edge_of r (far es₁ (turn es₁ d x) x) ≡ turn es₁ d x
      up_on l (second_low i j) = j
      up_on l (first_low i j) = absurd (nx.other (sym i ∙ l))

      down_on : low_edge_of r x ≢ d → OneLow (marks_of r) x (far es₁ (turn es₁ d x) x) (turn es₁ d x) → low_edge_of r (far es₁ (turn es₁ d x) x) ≢ turn es₁ d x
      down_on l (first_low i j) = j
      down_on l (second_low i j) =
          absurd (i (sym (turn_between es₁ x d (low_edge_of r x) (two_edges es₁ x (proper r g) (is_two es₁ x reg)) a (low_at_lem r g x (is_two es₁ x reg)) (λ e. l (sym e)))))

      go : (up : Bool) → Facing up d x → Facing up (turn es₁ d x) (far es₁ (turn es₁ d x) x)
      go true f = λ q. up_on (f reg) (one_low q)
      go false f = λ q. down_on (f reg) (one_low q)

  faces : (up : Bool) {d x q z : ℕ} {ss : List Pass} → Trail es₁ d x ss q z → At es₁ x d → Facing up d x → Facing up q z
  faces up done a f = f
  faces up {d} {x} (pass c reg e u) a f =
      let nx : Next es₁ d x c = next_edge es₁ d x c (proper r g) a reg e in
      faces up u nx.across.at (subst (λ (b : ℕ). Facing up b (far es₁ b x)) e (faces_on up d x a reg f))

-- the same chain in either direction has the same regular vertices, and is as long
same_inner : (c k : Chain) (w : ℕ) → SameChain c k → Mem w c.inner → Mem w k.inner
unfolding reversed
same_inner c k w (inl e) m = rw e at m
same_inner c k w (inr e) m = let n : Mem w (reverse (reverse k.inner)) = mem_reverse w (reverse k.inner) (rw e at m) in rw reverse-reverse at n

same_sum : (es : List Edge) (c k : Chain) → SameChain c k → sum (lengths_of es c.edges) ≡ sum (lengths_of es k.edges)
unfolding reversed
same_sum es c k (inl e) = rw e
same_sum es c k (inr e) = rw e (sum_reverse es k.edges)

-- ---- the walk from vertex v along its edge `on`

module _ (r : Register) (g : Reachable r) (v on : ℕ) (reg : is_regular r.edges v ≡ true) (a : At r.edges v on) where
  abbrev es₂ : List Edge
  es₂ = r.edges

  abbrev back : ℕ
  back = turn r.edges on v

  other : Turned es₂ v on
  other = turned es₂ v on (two_edges es₂ v (proper r g) (is_two es₂ v reg)) a

  -- v and what is passed behind it
  abbrev whole : List Pass
  whole = record { before = turn r.edges on v; at = v; after = on } ∷ once_round r.edges on v

  record Whole : Type 0 where
    onto : ℕ
    to : ℕ
    trail : Trail es₂ back v whole onto to
    inner_in : (w : ℕ) → Mem w (map at_of whole) → Mem w (chain_of es₂ on).inner
    inner_back : (w : ℕ) → Mem w (chain_of es₂ on).inner → Mem w (map at_of whole)
    edges_in_lem : (d : ℕ) → Mem d (back ∷ afters whole) → Mem d (chain_of es₂ on).edges
    edges_back : (d : ℕ) → Mem d (chain_of es₂ on).edges → Mem d (back ∷ afters whole)

  on_chain : Mem v (chain_of es₂ on).inner
  on_chain = chain_inner es₂ (proper r g) on on v a.inside (chain_has es₂ on) a reg

  -- round a ring
  module _ (q : edge_on_ring es₂ on ≡ true) where
    round : Round es₂ on v
    round = ring_round es₂ (proper r g) on v q a

    ring_whole : Whole
    unfolding afters after_of at_of
    ring_whole =
        record {
          onto = round.last;
          to = v;
          trail = pass on reg other.again round.trail;
          inner_in = same.inner_in;
          inner_back = same.inner_back;
          edges_in_lem = λ d m. inside d (mem-cases m);
          edges_back = λ d m. in_Tail (same.edges_back d m);
        }
      where
        same : SameRing (ring_from es₂ (proper r g) on v) (chain_of es₂ on)
        same = (ring_only es₂ (proper r g) (ring_from es₂ (proper r g) on v) on (loop_is_ring es₂ (proper r g) on v a round) (at_head refl)).1

        inside : (d : ℕ) → (d ≡ back) ⊎ Mem d (on ∷ afters (once_round es₂ on v)) → Mem d (chain_of es₂ on).edges
        inside d (inl e) = rw e (inner_chain es₂ (proper r g) on back v a.inside on_chain other.at)
        inside d (inr m) = same.edges_in_lem d m

    ring_sum : chain_length es₂ on ≡ sum (lengths_of es₂ (afters whole))
    unfolding afters after_of
    ring_sum = ring_length es₂ (proper r g) on v a q

    ring_end : get_or (tables_of r).degrees (end_of es₂ (far es₂ on v) (once_round es₂ on v)) 0 ≡ 2
    ring_end = rw (trail_end_of round.trail) (two_read r g on v a reg)

  -- to the end of a chain whose other end is next to v
  module _ (sing : is_regular es₂ (far es₂ back v) ≡ false) where
    not_ring : edge_on_ring es₂ on ≡ false
    not_ring =
        let x : Across es₂ back v = across es₂ back v (proper r g) other.at in
        let e : Ended es₂ back v = subst (λ (w : ℕ). Ended es₂ back w) x.again (singular_ends es₂ (proper r g) back (far es₂ back v) x.at sing) in
        ring_neither es₂ (proper r g) back on v reg other.at a (ended_ring es₂ (proper r g) back other.at.inside v other.at e)

    ends : Onwards es₂ on (far es₂ on v)
    ends =
        let x : Across es₂ on v = across es₂ on v (proper r g) a in
        onwards_ends es₂ (proper r g) on (far es₂ on v) x.at (off_ring es₂ (proper r g) on a.inside not_ring (far es₂ on v) x.at)

    behind : Trail es₂ on (far es₂ on v) (once_round es₂ on v) ends.onto ends.to
    behind = subst (λ (ss : List Pass). Trail es₂ on (far es₂ on v) ss ends.onto ends.to) (sym (round_open es₂ (proper r g) on v a not_ring)) ends.trail

    line : Line es₂
    line =
        let x : Across es₂ back v = across es₂ back v (proper r g) other.at in
        record {
          start = far es₂ back v;
          first = back;
          passes = whole;
          last = ends.onto;
          stop = ends.to;
          at = x.at;
          trail = subst (λ (w : ℕ). Trail es₂ back w whole ends.onto ends.to) (sym x.again) (pass on reg other.again behind);
          starts = sing;
          stops = ends.singular;
        }

    same_line : SameChain (chain_of es₂ on) (line_chain line)
    unfolding afters after_of line
    same_line = chain_of_line es₂ (proper r g) line on (in_Tail (at_head refl))

    line_same : SameChain (line_chain line) (chain_of es₂ on)
    line_same = same_back (chain_of es₂ on) (line_chain line) same_line

    open_whole : Whole
    unfolding line_chain line
    open_whole =
        record {
          onto = ends.onto;
          to = ends.to;
          trail = pass on reg other.again behind;
          inner_in = λ w m. same_inner (line_chain line) (chain_of es₂ on) w line_same m;
          inner_back = λ w m. same_inner (chain_of es₂ on) (line_chain line) w same_line m;
          edges_in_lem = λ d m. same_mem (line_chain line) (chain_of es₂ on) d line_same m;
          edges_back = λ d m. same_mem (chain_of es₂ on) (line_chain line) d same_line m;
        }

    open_sum : chain_length es₂ on ≡ length_at es₂ back + sum (lengths_of es₂ (afters whole))
    unfolding chain_length line_chain lengths_of sum line
    open_sum = same_sum es₂ (chain_of es₂ on) (line_chain line) same_line

    open_last : get_or (tables_of r).degrees (end_of es₂ (far es₂ on v) (once_round es₂ on v)) 0 ≢ 2
    open_last =
        let x : Across es₂ on v = across es₂ on v (proper r g) a in
        rw (trail_end_of behind) (other_read r g ends.onto ends.to (trail_at (proper r g) x.at behind) ends.singular)

  -- the name is the least number of all
  name_is : Whole → name_of es₂ on ≡ lower (afters whole) back
  name_is k =
      let x = least_le back (afters whole) (name_of es₂ on) (k.edges_back (name_of es₂ on) (name_in_chain es₂ on)) in
      let y = name_least es₂ (least back (afters whole)) on (k.edges_in_lem (least back (afters whole)) (least_mem back (afters whole))) in
      omega (arith, x, y, least_lower back (afters whole))

  -- ---- the walk cut where it comes to vertex w

  record Cut (k : Whole) (w : ℕ) : Type 0 where
    front : List Pass
    rest : List Pass
    by : ℕ
    parts : whole ≡ front ++ (record { before = by; at = w; after = turn es₂ by w } ∷ rest)
    regular : is_regular es₂ w ≡ true
    before : Trail es₂ back v front by w
    after : Trail es₂ (turn es₂ by w) (far es₂ (turn es₂ by w) w) rest k.onto k.to
    off : Off front w

  cut : (k : Whole) (w : ℕ) → Mem w (map at_of whole) → Cut k w
  cut k w m = go (meets_or w k.trail)
    where
      go : Meets es₂ back v whole k.onto k.to w → Cut k w
      go (misses o) = absurd (off_mem whole w o m)
      go (meets front rest by p u b o h) =
          let x : Behind es₂ by w rest k.onto k.to = behind_first b h in
          record { front = front; rest = x.rest; by = by; parts = p ∙ ap (λ (l : List Pass). front ++ l) x.parts; regular = x.regular; before = u; after = x.trail; off = o }

  module _ (k : Whole) (w : ℕ) (c : Cut k w) where
    abbrev next : ℕ
    next = turn r.edges c.by w

    nx : Next es₂ c.by w next
    nx = next_edge es₂ c.by w next (proper r g) (trail_at (proper r g) other.at c.before) c.regular refl

    afters_are : afters whole ≡ afters c.front ++ (next ∷ afters c.rest)
    unfolding afters after_of
    afters_are = ap (map after_of) c.parts ∙ map-append after_of c.front _

    sum_is : sum (lengths_of es₂ (afters whole)) ≡ sum (lengths_of es₂ (afters c.front)) + (length_at es₂ next + sum (lengths_of es₂ (afters c.rest)))
    unfolding lengths_of sum
    sum_is = rw afters_are (sum_append es₂ (afters c.front) (next ∷ afters c.rest))

    lowest_is : lower (afters whole) back ≡ lower (afters c.rest) (min next (lower (afters c.front) back))
    unfolding lower
    lowest_is =
        ap (λ (l : List ℕ). lower l back) afters_are
        ∙ lower_append (afters c.front) (next ∷ afters c.rest) back
        ∙ lower_min (afters c.front) (lower (afters c.rest) back) next
        ∙ ap (λ (x : ℕ). min next x) (lower_swap (afters c.front) (afters c.rest) back)
        ∙ sym (lower_min (afters c.rest) (lower (afters c.front) back) next)

  -- ---- what is told of the vertex that wears a label

  module _ (label : ℕ) where
    abbrev t₂ : Tables
    t₂ = tables_of r

    abbrev along_over : Look
    along_over = look_along_in t₂.degrees t₂.sides t₂.ends t₂.lengths t₂.labels label (length es₂) v on back

    abbrev told_over : Bool → Option Reply
    told_over up = told_in t₂.degrees t₂.lengths up back along_over

    along_is : along_over ≡ look (end_of es₂ (far es₂ on v) (once_round es₂ on v)) (seen_by t₂.lengths t₂.labels label (seen 0 0 0 back) whole)
    unfolding look_along_in once_round onwards seen_by
    along_is =
        rw (far_is r on v a.inside)
        (looks r g label v (length es₂) (with_edge t₂.lengths t₂.labels label (seen 0 0 0 back) v on) on (far es₂ on v) (across es₂ on v (proper r g) a).at)

    nobody_told : Whole → sum (lengths_of es₂ (afters whole)) ≤ most32 → ((u : ℕ) → Mem u (chain_of es₂ on).inner → label_of r u ≢ label) → (up : Bool) → told_over up ≡ none
    unfolding told_in
    nobody_told k m n up = rw (along_is, nobody_on r g label k.trail other.at 0 0 back (λ u h. n u (k.inner_in u h)) (omega arith))

    module _ (w : ℕ) (m : Mem w (chain_of es₂ on).inner) (l : label_of r w ≡ label) where
      only_w : (u : ℕ) → is_regular es₂ u ≡ true → label_of r u ≡ label → is_regular es₂ w ≡ true → u ≡ w
      only_w u q e p = (label_facts r g).unique u w (is_two es₂ u q) (is_two es₂ w p) (e ∙ sym l)

      seen_is : (k : Whole) (c : Cut k w) → sum (lengths_of es₂ (afters whole)) ≤ most32
          → seen_by t₂.lengths t₂.labels label (seen 0 0 0 back) whole
          ≡ seen (suc w) (sum (lengths_of es₂ (afters c.front))) (length_at es₂ (turn es₂ c.by w) + sum (lengths_of es₂ (afters c.rest))) (name_of es₂ on)
      seen_is k c f =
          rw (name_is k, lowest_is k w c)
          (ap (seen_by t₂.lengths t₂.labels label (seen 0 0 0 back)) c.parts
          ∙ met_on r g label c.front c.rest w c.before c.regular c.after other.at c.off l (λ u q e. only_w u q e c.regular) back (omega (arith, sum_is k w c)))

      -- its chain
      reg_w : is_regular es₂ w ≡ true
      reg_w = inner_regular r (proper r g) on w a.inside m

      at_lower : At es₂ w (lower_numbered es₂ w)
      at_lower = lower_at es₂ (proper r g) w reg_w

      lower_on : Mem (lower_numbered es₂ w) (chain_of es₂ on).edges
      lower_on = inner_chain es₂ (proper r g) on (lower_numbered es₂ w) w a.inside m at_lower

      chain_is : chain_at r w ≡ name_of es₂ on
      unfolding chain_at
      chain_is = chain_name es₂ (proper r g) (lower_numbered es₂ w) on a.inside lower_on

      ring_told : edge_on_ring es₂ on ≡ true → (up : Bool) → told_over up ≡ some (found_at r w)
      unfolding told_in found_at vertex_on_ring
      ring_told q up =
          let k : Whole = ring_whole q in
          let c : Cut k w = cut k w (k.inner_back w m) in
          let f : sum (lengths_of es₂ (afters whole)) ≤ most32 = omega (arith, ring_sum q, chains_small r g on a.inside) in
          let b : edge_on_ring es₂ (lower_numbered es₂ w) ≡ true = (ring_again es₂ (proper r g) (lower_numbered es₂ w) on a.inside q lower_on).ring in
          let s : sum32 (sum (lengths_of es₂ (afters c.front))) (length_at es₂ (turn es₂ c.by w) + sum (lengths_of es₂ (afters c.rest))) ≡ chain_length es₂ (lower_numbered es₂ w) =
          sum32_is _ _ (omega (arith, f, sum_is k w c)) ∙ omega (arith, sum_is k w c, ring_sum q, one_length es₂ (proper r g) (lower_numbered es₂ w) on w a.inside m at_lower) in
          rw (along_is, seen_is k c f, eq-eqb _ _ (ring_end q), b, chain_is, s)

      module _ (sing : is_regular es₂ (far es₂ back v) ≡ false) where
        k : Whole
        k = open_whole sing

        c : Cut k w
        c = cut k w (k.inner_back w m)

        abbrev sum_before : ℕ
        sum_before = sum (lengths_of es₂ (afters c.front))

        abbrev sum_behind : ℕ
        sum_behind = length_at es₂ (turn es₂ c.by w) + sum (lengths_of es₂ (afters c.rest))

        all_is : chain_length es₂ on ≡ length_at es₂ back + (sum_before + sum_behind)
        all_is = omega (arith, open_sum sing, sum_is k w c)

        fits : sum (lengths_of es₂ (afters whole)) ≤ most32
        fits = omega (arith, open_sum sing, chains_small r g on a.inside)

        not_round : edge_on_ring es₂ (lower_numbered es₂ w) ≡ false
        not_round = go (true_or_false (edge_on_ring es₂ (lower_numbered es₂ w)))
          where
            go : (edge_on_ring es₂ (lower_numbered es₂ w) ≡ true) ⊎ (edge_on_ring es₂ (lower_numbered es₂ w) ≡ false) → edge_on_ring es₂ (lower_numbered es₂ w) ≡ false
            go (inr q) = q
            go (inl q) =
                absurd (not_both (edge_on_ring es₂ on)
                (ring_again es₂ (proper r g) on (lower_numbered es₂ w) at_lower.inside q (chain_back es₂ (proper r g) (lower_numbered es₂ w) on a.inside lower_on)).ring (not_ring sing))

        -- the two ways from w
        way_behind : length_to es₂ (turn es₂ c.by w) w ≡ sum_behind
        unfolding length_to length_via lengths_of sum onwards afters k open_whole
        way_behind =
            let x : Next es₂ c.by w (turn es₂ c.by w) = nx k w c in
            let o : onwards es₂ (turn es₂ c.by w) (far es₂ (turn es₂ c.by w) w) ≡ c.rest =
            trail_walk (length es₂) c.after (ends sing).singular (omega (arith, trail_short es₂ (proper r g) x.across.at c.after (ends sing).singular)) in
            rw o

        way_before : length_to es₂ c.by w ≡ length_at es₂ back + sum_before
        way_before =
            let x : Next es₂ c.by w (turn es₂ c.by w) = nx k w c in
            let q : edge_on_ring es₂ (turn es₂ c.by w) ≡ false = ring_neither es₂ (proper r g) (lower_numbered es₂ w) (turn es₂ c.by w) w reg_w at_lower x.at not_round in
            let y : length_to es₂ (turn es₂ (turn es₂ c.by w) w) w ≡ length_to es₂ c.by w = ap (λ (d : ℕ). length_to es₂ d w) x.again in
            omega (arith, y, way_behind, all_is, reaches_sum es₂ (proper r g) (turn es₂ c.by w) on w a.inside m x.at q reg_w)

        near_is : sum32 (get_or t₂.lengths back 0) sum_before ≡ length_at es₂ back + sum_before
        near_is = rw (length_is r back other.at.inside) (sum32_is (length_at es₂ back) sum_before (omega (arith, all_is, chains_small r g on a.inside)))

        open_told : (up : Bool) → Facing r g up back v → told_over up ≡ some (found_at r w)
        unfolding told_in found_at vertex_on_ring
        open_told true f =
            let low : low_edge_of r w ≡ c.by = faces r g true c.before other.at f reg_w in
            rw (along_is, seen_is k c fits, ne_eqb _ _ (open_last sing), not_round, chain_is, low, way_before, way_behind, near_is)
        open_told false f =
            let x : Next es₂ c.by w (turn es₂ c.by w) = nx k w c in
            let n : low_edge_of r w ≢ c.by = faces r g false c.before other.at f reg_w in
            let low : turn es₂ c.by w ≡ low_edge_of r w =
            turn_between es₂ w c.by (low_edge_of r w) (two_edges es₂ w (proper r g) (is_two es₂ w reg_w)) (trail_at (proper r g) other.at c.before) (low_at_lem r g w (is_two es₂ w reg_w)) (λ e. n (sym e)) in
            rw (along_is, seen_is k c fits, ne_eqb _ _ (open_last sing), not_round, chain_is, ← low, x.again, way_before, way_behind, near_is)

-- ---- a chain or ring from the vertex next to its low end, or to its high end

module _ (r : Register) (g : Reachable r) (v : ℕ) (reg : is_regular r.edges v ≡ true) where
  abbrev es₃ : List Edge
  es₃ = r.edges

  abbrev t₃ : Tables
  t₃ = tables_of r

  abbrev low : ℕ
  low = low_edge_of r v

  low_there : At es₃ v low
  low_there = low_at_lem r g v (is_two es₃ v reg)

  high_there : Turned es₃ v low
  high_there = turned es₃ v low (two_edges es₃ v (proper r g) (is_two es₃ v reg)) low_there

  -- the edge along which the walk leaves v
  abbrev pub on_of : Bool → ℕ
  on_of true = turn es₃ (low_edge_of r v) v
  on_of false = low_edge_of r v

  -- v has the edge along which the walk leaves it
  pub on_there : (up : Bool) → At es₃ v (on_of up)
  on_there true = high_there.at
  on_there false = low_there

  facing : (up : Bool) → Facing r g up (turn es₃ (on_of up) v) v
  facing true = λ q. sym high_there.again
  facing false = λ q e. high_there.other (sym e)

  -- v is next to the end of its chain from which the walk comes, or on a ring
  abbrev pub AtEnd : Bool → Type 0
  AtEnd up = (is_regular es₃ (far es₃ (turn es₃ (on_of up) v) v) ≡ false) ⊎ (edge_on_ring es₃ (on_of up) ≡ true)

  -- v and the vertices that the walk passes are those of its chain
  pub only_met : (up : Bool) → AtEnd up → (w : ℕ) → Mem w (v ∷ map at_of (once_round es₃ (on_of up) v)) → Mem w (chain_of es₃ (on_of up)).inner
  unfolding at_of
  only_met up (inl s) w m = (open_whole r g v (on_of up) reg (on_there up) s).inner_in w m
  only_met up (inr q) w m = (ring_whole r g v (on_of up) reg (on_there up) q).inner_in w m

  -- the walk meets every regular vertex of the chain
  pub all_met : (up : Bool) → AtEnd up → (w : ℕ) → Mem w (chain_of es₃ (on_of up)).inner → Mem w (v ∷ map at_of (once_round es₃ (on_of up) v))
  unfolding at_of
  all_met up (inl s) w m = (open_whole r g v (on_of up) reg (on_there up) s).inner_back w m
  all_met up (inr q) w m = (ring_whole r g v (on_of up) reg (on_there up) q).inner_back w m

  module _ (label : ℕ) where
    through_is : (up : Bool) → look_through_in t₃.degrees t₃.sides t₃.ends t₃.lengths t₃.labels (length es₃) label up v
        ≡ told_in t₃.degrees t₃.lengths up (turn es₃ (on_of up) v)
        (look_along_in t₃.degrees t₃.sides t₃.ends t₃.lengths t₃.labels label (length es₃) v (on_of up) (turn es₃ (on_of up) v))
    unfolding look_through_in edge_towards
    through_is up = go up
      where
        k : PairAt t₃.sides v (low_edge_of r v) (turn es₃ (low_edge_of r v) v)
        k = (sides_linked r g v (landed_below r g v low low_there)).regular (is_two es₃ v reg)

        go : (up : Bool) → look_through_in t₃.degrees t₃.sides t₃.ends t₃.lengths t₃.labels (length es₃) label up v
            ≡ told_in t₃.degrees t₃.lengths up (turn es₃ (on_of up) v)
            (look_along_in t₃.degrees t₃.sides t₃.ends t₃.lengths t₃.labels label (length es₃) v (on_of up) (turn es₃ (on_of up) v))
        go true = rw (k.0, k.1, high_there.again)
        go false = rw (k.0, k.1)

    abbrev pub through_over : Bool → Option Reply
    through_over up = look_through_in t₃.degrees t₃.sides t₃.ends t₃.lengths t₃.labels (length es₃) label up v

    -- where a vertex of the chain wears the label, what is told is what model tells of it; where none does, nothing
    pub through_some : (up : Bool) → AtEnd up → (w : ℕ) → Mem w (chain_of es₃ (on_of up)).inner → label_of r w ≡ label → through_over up ≡ some (found_at r w)
    through_some up (inl s) w m l = through_is up ∙ open_told r g v (on_of up) reg (on_there up) label w m l s up (facing up)
    through_some up (inr q) w m l = through_is up ∙ ring_told r g v (on_of up) reg (on_there up) label w m l q up

    pub through_none : (up : Bool) → AtEnd up → ((u : ℕ) → Mem u (chain_of es₃ (on_of up)).inner → label_of r u ≢ label) → through_over up ≡ none
    through_none up (inl s) n =
        through_is up ∙ nobody_told r g v (on_of up) reg (on_there up) label (open_whole r g v (on_of up) reg (on_there up) s)
        (omega (arith, open_sum r g v (on_of up) reg (on_there up) s, chains_small r g (on_of up) (on_there up).inside)) n up
    through_none up (inr q) n =
        through_is up ∙ nobody_told r g v (on_of up) reg (on_there up) label (ring_whole r g v (on_of up) reg (on_there up) q)
        (omega (arith, ring_sum r g v (on_of up) reg (on_there up) q, chains_small r g (on_of up) (on_there up).inside)) n up
