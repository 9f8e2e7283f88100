-- Both ends are the leaves of one chain: the edge closes a ring.
use Rattle.std.specs.Prelude.{if◌then◌else◌}
use mathlib.Core.Path.{◌≡◌, refl, sym, ap, ◌∙◌}
use mathlib.Core.Logic.{◌≢◌}
use Prim.Native.Nat.{ℕ, ◌+◌, ◌*◌, ◌<◌}
use native.Mathlib.Omega.{arith}
use mathlib.Core.Bool.{Bool, true, not}
use mathlib.Core.List.{List, [], ◌∷◌, ◌++◌}
use lib.ListN.{length, get_or, set}
use lib.Seq.{get_or-set_other}
use lib.Dec.{eqb}
use borrow.Author.Tests.{eqb-true}
use Rattle.model.specs.Basics.{max_vertices}
use Rattle.model.specs.Graph.{Edge, Pass, degree, ends_at, far, is_regular, only_edge}
use Rattle.model.specs.Cases.{closes_ring}
use Rattle.model.specs.Labels.{Marks, attach, base, close, close_over, inwards, label_path, mark, next, relabel_count}
use Rattle.tables.specs.Steps.{most16}
use Rattle.tables.proofs.Sums.{more16_is}
use Rattle.labels.proofs.Labels.{beyond_law, next_in_is}
use Rattle.labels.specs.Labelling.{MarksIn, beyond_in, count_ahead, label_vertex_in, marks_in}
use Rattle.joining.specs.Merging.{begin_in, close_in, merge_in}
use Rattle.joining.proofs.Merges.{closes_begun, closes_on}
use Rattle.model.proofs.Walks.Degree.{Proper, is_two}
use Rattle.model.proofs.Walks.Turn.{At, between_back, only_edge_is}
use Rattle.model.proofs.Walks.Joins.{Across, across}
use Rattle.model.proofs.Walks.Trail.{Trail, done, trail_at, trail_cons}
use Rattle.model.proofs.Walks.Places.{here, later, Off}
use Rattle.theory.proofs.Labels.Relabellings.{relabel_count_bare, relabel_count_same}
use Rattle.theory.proofs.Labels.Inwards.{Inward, inward}
use Rattle.agreement.proofs.Linked.{Linked, linked_old, off_ends}
use Rattle.agreement.proofs.Lockstep.{Shows}
use Rattle.agreement.proofs.Laying.{Everywhere, HoldsMarks, kept_label, kept_where, lay_kept, lay_in, vertex_off}
use Rattle.agreement.proofs.Extending.{labelling, leaf_at, leaf_between}
use Rattle.agreement.proofs.Joining.{ChangedAs, Ground}
use Rattle.agreement.proofs.Merging.{merges_ring, ring_even, ring_is}

nil_ends : {es : List Edge} {d v q w : ℕ} → Trail es d v [] q w → (d ≡ q) × (v ≡ w)
nil_ends done = (refl, refl)

module _ {es : List Edge} {n : Edge} {degrees sides ends labels : List ℕ} {m : Marks} (k : Ground es n degrees sides ends labels m)
    (a b : ℕ) (la : degree es a ≡ 1) (lb : degree es b ≡ 1) (oa : ends_at a n ≡ 1) (ob : ends_at b n ≡ 1) (ab : a ≢ b) (blocks : ℕ)
    (c : closes_ring es a b ≡ true) (bb : blocks < most16) (za : get_or labels a 0 ≡ 0) (zb : get_or labels b 0 ≡ 0) where
  pr : Proper es
  pr = k.proper

  sh : Shows es degrees sides ends m.lows
  sh = k.shows

  abbrev new : List Edge
  new = es ++ (n ∷ [])

  abbrev e : ℕ
  e = length es

  abbrev da : ℕ
  da = only_edge es a

  abbrev db : ℕ
  db = only_edge es b

  abbrev ua : ℕ
  ua = far es da a

  abbrev ub : ℕ
  ub = far es db b

  at_a : At es a da
  at_a = leaf_at es pr a la

  at_b : At es b db
  at_b = leaf_at es pr b lb

  below_a : a < max_vertices
  below_a = sh.below a da at_a

  below_b : b < max_vertices
  below_b = sh.below b db at_b

  ia : Inward es a da (inwards es a)
  ia = inward es pr a da la at_a

  ib : Inward es b db (inwards es b)
  ib = inward es pr b db lb at_b

  to : ia.to ≡ b
  to = eqb-true ia.to b (sym (ring_is es a b la lb ia) ∙ c)

  even : length (inwards es a) ≡ length (inwards es b)
  even = ring_even es a b pr la lb at_a ia ib to

  start : HoldsMarks new (λ v. (v ≢ a) × (v ≢ b)) sides labels m
  start = record {
    labels_are = k.labels_are;
    links = λ v l o. linked_old es n pr v (off_ends n a b v k.differ oa ob ab o.0 o.1) sides m.lows (sh.links v l);
    sides_long = k.sides_long;
    lows_long = k.lows_long;
  }

  no_leaf : (u z : ℕ) → is_regular es u ≡ true → degree es z ≡ 1 → u ≢ z
  no_leaf u z q one w = let two : degree es z ≡ 2 = rw w at (is_two es u q) in omega arith

  bare_count : (x y : ℕ) → relabel_count labels (set (set labels a x) b y) ≡ 0
  bare_count x y = omega (arith, relabel_count_bare labels (set labels a x) b y zb, relabel_count_bare labels labels a x za, relabel_count_same labels)

  -- ---- without regular vertices: a birth
  module _ (none : inwards es a ≡ []) where
    abbrev path : List Pass
    path = record { before = e; at = a; after = da } ∷ record { before = db; at = b; after = e } ∷ []

    nil : (da ≡ ia.onto) × (ua ≡ ia.to)
    nil = nil_ends (rw none at ia.trail)

    same_edge : da ≡ db
    same_edge =
        let x : Across es da a = across es da a pr at_a in
        nil.0 ∙ sym (only_edge_is es b ia.onto pr lb (rw to at (trail_at pr x.at ia.trail)))

    laid : HoldsMarks new Everywhere (lay_in true (base (blocks + 1)) path sides labels).sides (lay_in true (base (blocks + 1)) path sides labels).labels
        (label_path true (base (blocks + 1)) path m)
    laid =
        lay_kept new k.below true (base (blocks + 1)) path sides labels m
        (between_back (leaf_between es n pr k.differ a la oa), (leaf_between es n pr k.differ b lb ob, tt))
        (kept_where (Off path) (λ v o. (λ q. o 0 _ here (sym q), λ q. o 1 _ (later here) (sym q))) start)

    begun : let w = begin_in sides labels a e b e da (blocks + 1) in let l = lay_in true (base (blocks + 1)) path sides labels in (w.sides ≡ l.sides) × (w.labels ≡ l.labels)
    unfolding lay_in count_ahead begin_in next label_vertex_in
    begun = (rw same_edge, refl)

    begun_count : relabel_count labels (begin_in sides labels a e b e da (blocks + 1)).labels ≡ 0
    unfolding begin_in label_vertex_in
    begun_count = bare_count (base (blocks + 1)) (base (blocks + 1) + 1)

    closes_none : ChangedAs new labels (close_in sides labels blocks a b e da ua db ub) (close es blocks a b m)
    unfolding close close_over begin_in
    closes_none =
        let w = begin_in sides labels a e b e da (blocks + 1) in
        rw (
          none,
          ← closes_begun sides labels w.sides w.labels blocks a b e da ua db ub (blocks + 1) 0 true (blocks + 1) (nil.1 ∙ to) (sym (more16_is blocks bb)) refl (refl, refl, refl),
        )
        (record { holds = record { kept = rw (begun.0, begun.1) laid; blocks_are = refl }; counts = begun_count })

  -- ---- with regular vertices: each end goes on
  module _ (u u' : Pass) (us us' : List Pass) (some-a : inwards es a ≡ u ∷ us) (some-b : inwards es b ≡ u' ∷ us') where
    ha : (u.at ≡ ua) × (is_regular es ua ≡ true)
    ha = trail_cons (rw some-a at ia.trail)

    hb : (u'.at ≡ ub) × (is_regular es ub ≡ true)
    hb = trail_cons (rw some-b at ib.trail)

    abbrev up_a : Bool
    up_a = not (eqb (get_or m.lows ua 0) da)

    abbrev label_a : ℕ
    label_a = next up_a (get_or m.labels ua 0)

    abbrev h : MarksIn
    h = label_vertex_in sides labels a label_a da e up_a

    abbrev m₁ : Marks
    m₁ = mark a label_a (if up_a then da else e) m

    first_kept : HoldsMarks new (λ v. v ≢ b) h.sides h.labels m₁
    first_kept =
        kept_label new (λ v. (v ≢ a) × (v ≢ b)) (λ v. v ≢ b) sides labels m a label_a (λ v nb na. (na, nb)) start below_a da e up_a (leaf_between es n pr k.differ a la oa)

    abbrev up_b : Bool
    up_b = not (eqb (get_or m₁.lows ub 0) db)

    abbrev label_b : ℕ
    label_b = next up_b (get_or m₁.labels ub 0)

    abbrev j : MarksIn
    j = label_vertex_in h.sides h.labels b label_b db e up_b

    second_kept : HoldsMarks new Everywhere j.sides j.labels (mark b label_b (if up_b then db else e) m₁)
    second_kept =
        kept_label new (λ v. v ≢ b) Everywhere h.sides h.labels m₁ b label_b (λ v t nb. nb) first_kept below_b db e up_b (leaf_between es n pr k.differ b lb ob)

    ua_below : ua < max_vertices
    ua_below = sh.below ua da (across es da a pr at_a).at

    ub_below : ub < max_vertices
    ub_below = sh.below ub db (across es db b pr at_b).at

    read : (v : ℕ) → get_or labels v 0 ≡ get_or m.labels v 0
    read v = ap (λ (l : List ℕ). get_or l v 0) k.labels_are

    first_on : marks_in h.sides h.labels 0 ≡ beyond_in sides labels a e da ua
    first_on =
        let q : Linked es sides m.lows ua = sh.links ua ua_below in
        beyond_law sides labels h.sides h.labels a e da ua (get_or m.labels ua 0) label_a h.count up_a
        (ap (λ (z : ℕ). not (eqb z da)) (sym (q.regular (is_two es ua ha.1)).0)) (sym (read ua))
        (sym (next_in_is up_a (get_or m.labels ua 0) (omega (arith, k.small ua, read ua)))) refl

    ub_off : ub ≢ a
    ub_off = no_leaf ub a hb.1 la

    low_b : get_or h.sides (2 * ub) 0 ≡ get_or m₁.lows ub 0
    unfolding mark
    low_b =
        let q : Linked es sides m.lows ub = sh.links ub ub_below in
        (vertex_off up_a sides labels a label_a da e ub ub_off).0.0 ∙ (q.regular (is_two es ub hb.1)).0 ∙ sym (get_or-set_other m.lows a ub _ 0 ub_off)

    label_same : get_or h.labels ub 0 ≡ get_or m₁.labels ub 0
    label_same = ap (λ (l : List ℕ). get_or l ub 0) first_kept.labels_are

    label_old : get_or h.labels ub 0 ≡ get_or labels ub 0
    label_old = (vertex_off up_a sides labels a label_a da e ub ub_off).1

    second_on : marks_in j.sides j.labels 0 ≡ beyond_in h.sides h.labels b e db ub
    second_on =
        beyond_law h.sides h.labels j.sides j.labels b e db ub (get_or m₁.labels ub 0) label_b j.count up_b
        (ap (λ (z : ℕ). not (eqb z db)) (sym low_b)) (sym label_same)
        (sym (next_in_is up_b (get_or m₁.labels ub 0) (omega (arith, k.small ub, label_old, label_same)))) refl

    on_count : relabel_count labels j.labels ≡ 0
    unfolding label_vertex_in
    on_count = bare_count label_a label_b

    closed_as : close es blocks a b m ≡ labelling blocks (mark b label_b (if up_b then db else e) m₁)
    unfolding close close_over attach label_path
    closed_as = rw (some-a, some-b, ha.0, hb.0)

    closes_some : ChangedAs new labels (close_in sides labels blocks a b e da ua db ub) (close es blocks a b m)
    closes_some =
        rw (
          closed_as,
          ← closes_on sides labels j.sides j.labels blocks a b e da ua db ub blocks 0 true h.sides h.labels (no_leaf ua b ha.1 lb) first_on second_on (refl, refl, refl),
        )
        (record { holds = record { kept = second_kept; blocks_are = refl }; counts = on_count })

  -- what the tables are left with is what `close` says
  pub closes : ChangedAs (es ++ (n ∷ [])) labels (merge_in degrees sides ends labels blocks a b (length es) (length es)) (close es blocks a b m)
  closes = rw (← merges_ring k a b la lb oa ob ab blocks c) (go (inwards es a) (inwards es b) refl refl)
    where
      go : (ss ts : List Pass) → inwards es a ≡ ss → inwards es b ≡ ts → ChangedAs new labels (close_in sides labels blocks a b e da ua db ub) (close es blocks a b m)
      go [] ts p q = closes_none p
      go (u ∷ us) [] p q = absurd (omega (arith, even, ap length p, ap length q))
      go (u ∷ us) (u' ∷ us') p q = closes_some u u' us us' p q
