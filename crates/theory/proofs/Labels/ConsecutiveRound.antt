-- The labels of a ring are consecutive once round, from the vertex behind its last edge.
use mathlib.Core.Path.{◌≡◌, refl, sym, ap, ◌∙◌, subst}
use mathlib.Core.Logic.{◌⊎◌, inl, inr}
use Prim.Native.Nat.{ℕ, suc, ◌≤◌, ◌<◌}
use native.Mathlib.Omega.{arith}
use native.Mathlib.Decide.{dec_le}
use mathlib.Core.Bool.{true}
use mathlib.Core.List.Memᴰ.{cases_cons as mem-cases}
use mathlib.Core.List.Memᴰ.{eq_of_singleton as mem-one}
use mathlib.Core.List.Memᴰ.{head as at_head}
use mathlib.Core.List.Memᴰ.{tail as in_Tail}
use mathlib.Core.List.{List, [], ◌∷◌, map, Memᴰ as Mem}
use lib.ListN.{length, length-map}
use Rattle.model.specs.Basics.{count_from}
use Rattle.model.specs.Graph.{Edge, Pass, after_of, at_of, chain_of, edge_at, far, is_regular, edge_on_ring, once_round, turn}
use Rattle.model.specs.Labels.{Marks}
use Rattle.model.specs.Register.{Register, marks_of}
use Rattle.model.specs.Notions.{IsRing, RisesRound, SameEdges}
use Rattle.model.proofs.Basics.Counting.{Distinct, mem_occurs, occurs, same_eq}
use Rattle.model.proofs.Walks.Degree.{Proper, is_two}
use Rattle.model.proofs.Walks.Turn.{At, Turned, turned, two_edges}
use Rattle.model.proofs.Walks.Joins.{Across, across, far_ne}
use Rattle.model.proofs.Walks.Trail.{Trail, done, pass, afters}
use Rattle.model.proofs.Walks.Round.{Round, ring_round}
use Rattle.model.proofs.Walks.Loops.{SameLoop, last_on, loop_both, loop_distinct, loop_ends, loop_regular, loop_edges, loop_inner, loops_same}
use Rattle.model.proofs.Chains.Partition.{RingAgain, chain_again, chain_back, chain_has, first_at, own_round, ring_again, ring_edges_lem}
use Rattle.model.proofs.Chains.Own.{ring_both}
use Rattle.model.proofs.Chains.ExactRing.{loop_is_ring, ring_only, ring_from}
use Rattle.model.proofs.Labels.Following.{label_at, low_at}
use Rattle.theory.proofs.Labels.Rise.{IsSeam, OneLow, Pairs, Sided, first_low, second_low, step_low}
use Rattle.theory.proofs.Labels.Consecutive.{Ascends, Plain, ascends}

-- the greatest of a list
record Greatest (x : ℕ) (xs : List ℕ) : Type 0 where
  number : ℕ
  is_in : Mem number (x ∷ xs)
  is_most : (j : ℕ) → Mem j (x ∷ xs) → j ≤ number

greatest_of : (x : ℕ) (xs : List ℕ) → Greatest x xs
greatest_of x [] = record { number = x; is_in = at_head refl; is_most = λ j m. let e : j ≡ x = mem-one m in omega arith }
greatest_of x (y ∷ ys) = go (greatest_of y ys)
  where
    go : Greatest y ys → Greatest x (y ∷ ys)
    go g = pick (dec_le x g.number)
      where
        most : (n : ℕ) → x ≤ n → g.number ≤ n → (j : ℕ) → (j ≡ x) ⊎ Mem j (y ∷ ys) → j ≤ n
        most n a b j (inl e) = omega arith
        most n a b j (inr k) = omega (arith, g.is_most j k)

        pick : Dec (x ≤ g.number) → Greatest x (y ∷ ys)
        pick (yes h) = record { number = g.number; is_in = in_Tail g.is_in; is_most = λ j k. most g.number h (omega arith) j (mem-cases k) }
        pick (no h) = record { number = x; is_in = at_head refl; is_most = λ j k. most x (omega arith) (omega arith) j (mem-cases k) }

last_after : {es : List Edge} {d v q w : ℕ} {ss : List Pass} → Trail es d v ss q w → 1 ≤ length ss → Mem q (afters ss)
unfolding afters after_of
last_after done h = absurd (omega arith)
last_after (pass t c e u) h = last_on u

module _ (es : List Edge) (pr : Proper es) (m : Marks) (s : Sided es m) where
  -- on a ring only the last edge is one
  plain_ring : {d v q w : ℕ} {ss : List Pass} → Trail es d v ss q w → Distinct (afters ss) → ((t : ℕ) → Mem t (afters ss) → IsSeam es t → t ≡ q) → Plain es pr m s ss
  unfolding afters after_of occurs
  plain_ring done dis f = tt
  plain_ring {d} {v} {q} {w} (pass {ss = ss} t c e u) dis f = go ss u dis (λ n k. f n (in_Tail k)) (plain_ring u (λ n. omega (arith, dis n)) (λ n k. f n (in_Tail k)))
    where
      go : (ss : List Pass) → Trail es t (far es t v) ss q w → Distinct (t ∷ afters ss) → ((n : ℕ) → Mem n (afters ss) → IsSeam es n → n ≡ q) → Plain es pr m s ss
          → Plain es pr m s (record { before = d; at = v; after = t } ∷ ss)
      go [] u dis f p = tt
      go (b ∷ ss) u dis g p = (λ k. later (f t (at_head refl) k), p)
        where
          later : t ≡ q → ⊥
          later i =
              let n : Mem t (afters (b ∷ ss)) = subst (λ (z : ℕ). Mem z (afters (b ∷ ss))) (sym i) (last_after u (omega arith)) in
              omega (arith, dis t, same_eq t t refl, mem_occurs t (afters (b ∷ ss)) n)

  -- the ring of edge d, from the vertex behind its last edge
  record FromLast (d : ℕ) : Type 0 where
    last : ℕ
    from : ℕ
    on_ring : edge_on_ring es last ≡ true
    last_at : At es from last
    low_is : low_at m from ≡ last
    has : Mem d (chain_of es last).edges
    most : (t : ℕ) → Mem t (chain_of es last).edges → t ≤ last

  from_last : (d : ℕ) → d < length es → edge_on_ring es d ≡ true → FromLast d
  from_last d h t = go (step_low (s.steps v w g pairs))
    where
      a : ℕ
      a = (edge_at es d).first

      big : Greatest d (afters (once_round es d a))
      big = greatest_of d (afters (once_round es d a))

      g : ℕ
      g = big.number

      g_in : Mem g (chain_of es d).edges
      g_in = subst (λ (l : List ℕ). Mem g l) (sym (ring_edges_lem es pr d t)) big.is_in

      same : RingAgain es pr g d
      same = ring_again es pr g d h t g_in

      v : ℕ
      v = (edge_at es g).first

      v_at : At es v g
      v_at = first_at es pr g same.inside

      w : ℕ
      w = far es g v

      x : Across es g v
      x = across es g v pr v_at

      edges : SameEdges (chain_of es g) (chain_of es d)
      edges = chain_again es pr g d h g_in

      k : Round es g v
      k = own_round es pr g same.inside same.ring

      regular_end : (u : ℕ) → At es u g → is_regular es u ≡ true
      regular_end u b = loop_regular es pr g v v_at k u (loop_ends es pr g v v_at k g u (at_head refl) b)

      pairs : Pairs es v w g
      pairs = record {
        first_two = is_two es v (regular_end v v_at);
        second_two = is_two es w (regular_end w x.at);
        first_at = v_at;
        second_at = x.at;
        differ = λ e. far_ne es g v pr v_at (sym e);
      }

      most' : (j : ℕ) → Mem j (chain_of es g).edges → j ≤ g
      most' j m = big.is_most j (subst (λ (l : List ℕ). Mem j l) (ring_edges_lem es pr d t) (edges.edges_in_lem j m))

      found : (u : ℕ) → At es u g → low_at m u ≡ g → FromLast d
      found u b l = record { last = g; from = u; on_ring = same.ring; last_at = b; low_is = l; has = edges.edges_back d (chain_has es d); most = most' }

      go : OneLow m v w g → FromLast d
      go (second_low p l) = found w x.at l
      go (first_low l p) = found v v_at l

module _ (r : Register) (pr : Proper r.edges) (s : Sided r.edges (marks_of r)) where
  -- the labels of a ring rise by 1 once round, from the vertex behind its last edge
  pub ring_upwards : (d : ℕ) → d < length r.edges → edge_on_ring r.edges d ≡ true → RisesRound r d
  unfolding marks_of label_at low_at afters after_of at_of
  ring_upwards d h t =
      record {
        ring = ring_from es pr e w;
        is_ring_lem = is_ring_lem;
        same = (ring_only es pr (ring_from es pr e w) d is_ring_lem has).1;
        upwards = record {
          lowest = label_at (marks_of r) w;
          labels = up.labels_are ∙ ap (λ (i : ℕ). count_from (label_at (marks_of r) w) i) (let z : suc (length ss) ≡ suc (length (map at_of ss)) = omega (arith, length-map ss at_of) in z);
          last = g;
          low_edges = up.lows_are;
          landed_last = λ j n. f.most j (on_g j n);
        };
      }
    where
      es : List Edge
      es = r.edges

      f : FromLast es pr (marks_of r) s d
      f = from_last es pr (marks_of r) s d h t

      g : ℕ
      g = f.last

      w : ℕ
      w = f.from

      regular : is_regular es w ≡ true
      regular = let k = ring_round es pr g w f.on_ring f.last_at in k.regular

      e : ℕ
      e = turn es g w

      tu : Turned es w g
      tu = turned es w g (two_edges es w pr (is_two es w regular)) f.last_at

      e_ring : edge_on_ring es e ≡ true
      e_ring = ring_both es pr g e w regular f.last_at tu.at f.on_ring

      k : Round es e w
      k = ring_round es pr e w e_ring tu.at

      ss : List Pass
      ss = once_round es e w

      is_ring_lem : IsRing es (ring_from es pr e w)
      is_ring_lem = loop_is_ring es pr e w tu.at k

      last_is : k.last ≡ g
      last_is = sym k.back ∙ tu.again

      -- along the last edge to w, and once round
      whole : Trail es g w (record { before = g; at = w; after = e } ∷ ss) g w
      whole = pass e regular refl (subst (λ (z : ℕ). Trail es e (far es e w) ss z w) last_is k.trail)

      -- it is the ring of g
      v : ℕ
      v = (edge_at es g).first

      v_at : At es v g
      v_at = first_at es pr g f.last_at.inside

      kg : Round es g v
      kg = own_round es pr g f.last_at.inside f.on_ring

      same_loop : SameLoop es pr g v e w
      same_loop =
          let n : Mem w (loop_inner es g v) = loop_ends es pr g v v_at kg g w (at_head refl) f.last_at in
          loops_same es pr g v e w v_at kg tu.at k (loop_both es pr g v v_at kg w e n tu.at)

      on_g : (j : ℕ) → Mem j (loop_edges es e w) → Mem j (chain_of es g).edges
      on_g j n = subst (λ (l : List ℕ). Mem j l) (sym (ring_edges_lem es pr g f.on_ring)) (same_loop.edges_back j n)

      has : Mem d (loop_edges es e w)
      has = same_loop.edges_in_lem d (subst (λ (l : List ℕ). Mem d l) (ring_edges_lem es pr g f.on_ring) f.has)

      only_last : (j : ℕ) → Mem j (loop_edges es e w) → IsSeam es j → j ≡ g
      only_last j n q =
          let a : j ≤ g = f.most j (on_g j n) in
          let b : g ≤ j = q.is_last g (chain_back es pr j g f.last_at.inside (on_g j n)) in
          omega arith

      plain : Plain es pr (marks_of r) s (record { before = g; at = w; after = e } ∷ ss)
      plain = plain_ring es pr (marks_of r) s whole (loop_distinct es pr e w tu.at k) only_last

      up : Ascends es pr (marks_of r) s g w (record { before = g; at = w; after = e } ∷ ss) g
      up = ascends es pr (marks_of r) s f.last_at whole plain (λ l. f.low_is)
