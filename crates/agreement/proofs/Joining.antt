-- Two leaves are joined by the new edge: the one's chain keeps its labels, and the labels that follow are laid along the other's.
use mathlib.Core.Path.{◌≡◌, refl, sym, ap, ◌∙◌}
use mathlib.Core.Logic.{◌≢◌}
use Prim.Native.Nat.{ℕ, ◌+◌, ◌*◌, ◌≤◌, ◌<◌}
use native.Mathlib.Omega.{arith}
use mathlib.Core.Bool.{Bool, true, false, not}
use mathlib.Core.List.{List, [], ◌∷◌, ◌++◌}
use lib.ListN.{length, get_or, set}
use lib.Seq.{get_or-set_other}
use lib.Dec.{eqb}
use Rattle.model.specs.Basics.{max_vertices, max_edges}
use Rattle.model.specs.Graph.{Edge, Pass, degree, ends_at, far, is_regular, only_edge}
use Rattle.model.specs.Labels.{Labelling, Marks, attach, base, inwards, join_path, label_path, next, relabel_count}
use Rattle.tables.specs.Steps.{far_in, most32}
use Rattle.labels.specs.Labelling.{MarksIn, count_ahead, label_vertex_in, rises_in}
use Rattle.labels.specs.Changes.{Changed, changed}
use Rattle.joining.specs.Merging.{begin_in, join_in}
use Rattle.joining.proofs.Merges.{join_law}
use Rattle.counting.specs.Counting.{join_count_in}
use Rattle.counting.proofs.Laws.{join_count}
use Rattle.model.proofs.Walks.Degree.{Proper, is_two}
use Rattle.model.proofs.Walks.Turn.{At, Between, between_back}
use Rattle.model.proofs.Walks.Joins.{across}
use Rattle.model.proofs.Walks.Trail.{trail_cons}
use Rattle.model.proofs.Walks.Ended.{trail_short}
use Rattle.model.proofs.Walks.Places.{here, later, Off, off_cons, Once, once_cons}
use Rattle.theory.proofs.Labels.Relabellings.{moved, moved_old, relabel_count_bare, relabel_count_same}
use Rattle.theory.proofs.Labels.Inwards.{Inward, inward, trail_regular}
use Rattle.model.proofs.Walks.Once.{at_once}
use Rattle.agreement.proofs.Linked.{Linked, linked_old, off_ends, turn_agrees}
use Rattle.agreement.proofs.Lockstep.{Shows}
use Rattle.agreement.proofs.Passes.{AllBetween, all_old, between_ith, trail_between}
use Rattle.agreement.proofs.Laying.{Everywhere, Follow, HoldsMarks, Turns, follow, lay_counts, lay_kept, lay_in, relabel_lays, turn_other}
use Rattle.agreement.proofs.Reading.{count_lays}
use Rattle.agreement.proofs.Extending.{HoldsLabelling, attach_none, attach_some, leaf_at, leaf_between}

-- the tables hold labelling g; the count is that of the relabelled
pub record ChangedAs (es : List Edge) (labels : List ℕ) (p : Changed) (g : Labelling) : Type 0 where
  pub holds : HoldsLabelling es p.sides p.labels p.blocks g
  pub counts : relabel_count labels p.labels ≡ p.relabellings

-- tables that show the edges before edge n, whose ends are then below 4,096
pub record Ground (es : List Edge) (n : Edge) (degrees sides ends labels : List ℕ) (m : Marks) : Type 0 where
  pub proper : Proper es
  pub differ : n.first ≢ n.second
  pub room : length es ≤ max_edges
  pub below : (v d : ℕ) → At (es ++ (n ∷ [])) v d → v < max_vertices
  pub shows : Shows es degrees sides ends m.lows
  pub labels_are : labels ≡ m.labels
  pub sides_long : length sides ≡ 2 * max_vertices
  pub lows_long : length m.lows ≡ max_vertices
  -- the labels that follow any of them stay within 32 bits
  pub small : (v : ℕ) → get_or labels v 0 + 8192 < most32

module _ {es : List Edge} {n : Edge} {degrees sides ends labels : List ℕ} {m : Marks} (k : Ground es n degrees sides ends labels m)
    (x y : ℕ) (lx : degree es x ≡ 1) (ly : degree es y ≡ 1) (ox : ends_at x n ≡ 1) (oy : ends_at y n ≡ 1) (xy : x ≢ y) where
  pr : Proper es
  pr = k.proper

  df : n.first ≢ n.second
  df = k.differ

  sh : Shows es degrees sides ends m.lows
  sh = k.shows

  abbrev new : List Edge
  new = es ++ (n ∷ [])

  abbrev dx : ℕ
  dx = only_edge es x

  abbrev dy : ℕ
  dy = only_edge es y

  abbrev path : List Pass
  path = join_path es x y

  ax : At es x dx
  ax = leaf_at es pr x lx

  ay : At es y dy
  ay = leaf_at es pr y ly

  no_leaf : (v z : ℕ) → degree es v ≡ 2 → degree es z ≡ 1 → v ≢ z
  no_leaf v z two one e = let q : degree es z ≡ 2 = rw e at two in omega arith

  meets : (v : ℕ) → v ≢ x → v ≢ y → ends_at v n ≡ 0
  meets v a b = off_ends n x y v df ox oy xy a b

  -- the walk from y inwards
  iy : Inward es y dy (inwards es y)
  iy = inward es pr y dy ly ay

  walk_at : At es (far es dy y) dy
  walk_at = (across es dy y pr ay).at

  walk_between : AllBetween es (inwards es y)
  walk_between = trail_between pr walk_at iy.trail

  walk_once : Once (inwards es y)
  walk_once = at_once es pr walk_at iy.trail iy.singular

  walk_short : length (inwards es y) < length es
  walk_short = trail_short es pr walk_at iy.trail iy.singular

  walk_off : (z : ℕ) → degree es z ≡ 1 → Off (inwards es y) z
  walk_off z one i s j = no_leaf s.at z (trail_regular iy.trail i s j) one

  -- the whole path
  path_between : AllBetween new path
  unfolding join_path
  path_between = (
    leaf_between es n pr df x lx ox,
    (between_back (leaf_between es n pr df y ly oy), all_old es n pr (λ v two. meets v (no_leaf v x two lx) (no_leaf v y two ly)) (inwards es y) walk_between),
  )

  path_once : Once path
  unfolding join_path
  path_once = once_cons _ _ (off_cons _ _ x (walk_off x lx) xy) (once_cons _ _ (walk_off y ly) walk_once)

  path_start : HoldsMarks new (Off path) sides labels m
  unfolding join_path
  path_start = record {
    labels_are = k.labels_are;
    links = λ v l o. linked_old es n pr v (meets v (λ e. o 0 _ here (sym e)) (λ e. o 1 _ (later here) (sym e))) sides m.lows (sh.links v l);
    sides_long = k.sides_long;
    lows_long = k.lows_long;
  }

  laid_kept : (up : Bool) (label : ℕ) → let w = lay_in up label path sides labels in HoldsMarks new Everywhere w.sides w.labels (label_path up label path m)
  laid_kept up label = lay_kept new k.below up label path sides labels m path_between path_start

  laid_counts : (up : Bool) (label : ℕ) → let w = lay_in up label path sides labels in relabel_count labels w.labels ≡ w.count
  laid_counts up label = omega (arith, lay_counts labels up label path sides labels refl path_once (λ i s j. refl), relabel_count_same labels)

  side_is : (z : ℕ) → degree es z ≡ 1 → z < max_vertices → get_or sides (2 * z) 0 ≡ only_edge es z
  side_is z one l = ((sh.links z l).leaf one).0

  -- the chain of x has regular vertices: the first of them is u
  abbrev up : ℕ → Bool
  up u = not (eqb (get_or m.lows u 0) dx)

  abbrev label : ℕ → ℕ
  label u = next (up u) (get_or m.labels u 0)

  turns : (l₁ l₂ : ℕ) (b : Bool) → let w = label_vertex_in sides labels x l₁ dx (length es) b in
      Turns (label_vertex_in w.sides w.labels y l₂ (length es) dy b).sides (inwards es y)
  turns l₁ l₂ b i s j =
      let w = label_vertex_in sides labels x l₁ dx (length es) b in
      let t : Between es s.at s.before s.after = between_ith (inwards es y) walk_between i s j in
      turn_other w.sides w.labels y l₂ (length es) dy b s.before s.at (walk_off y ly i s j)
      ∙ turn_other sides labels x l₁ dx (length es) b s.before s.at (walk_off x lx i s j)
      ∙ turn_agrees es sides m.lows s.at s.before pr (sh.links s.at (sh.below s.at s.before t.before_at)) (is_two es s.at t.regular) t.before_at
      ∙ t.forth

  module _ (u : ℕ) (e : u ≡ far es dx x) (c : is_regular es u ≡ true) where
    -- the labels of x, of y and of the first in y's chain
    abbrev l₁ : ℕ
    l₁ = label u

    abbrev l₂ : ℕ
    l₂ = next (up u) (label u)

    abbrev l₃ : ℕ
    l₃ = next (up u) (next (up u) (label u))

    wears : get_or labels u 0 ≡ get_or m.labels u 0
    wears = ap (λ (l : List ℕ). get_or l u 0) k.labels_are

    f : Follow (up u) (get_or m.labels u 0) (length (inwards es y))
    f = follow (up u) (get_or m.labels u 0) (length (inwards es y)) (omega (arith, k.small u, wears, walk_short, k.room))

    rises : up u ≡ rises_in sides dx u
    rises =
        let q : Linked es sides m.lows u = sh.links u (sh.below u dx (rw e (across es dx x pr ax).at)) in
        ap (λ (z : ℕ). not (eqb z dx)) (sym (q.regular (is_two es u c)).0)

    side_x : (dx ≡ get_or sides (2 * x) 0) × (u ≡ far_in ends dx x)
    side_x = (sym (side_is x lx (sh.below x dx ax)), e ∙ sym (sh.fars_are dx x ax.inside))

    side_y : (dy ≡ get_or sides (2 * y) 0) × (far es dy y ≡ far_in ends dy y)
    side_y = (sym (side_is y ly (sh.below y dy ay)), sym (sh.fars_are dy y ay.inside))

    -- x and y labelled, and then y's chain
    abbrev w₁ : MarksIn
    w₁ = label_vertex_in sides labels x l₁ dx (length es) (up u)

    abbrev w₂ : MarksIn
    w₂ = label_vertex_in w₁.sides w₁.labels y l₂ (length es) dy (up u)

    abbrev w₃ : MarksIn
    w₃ = lay_in (up u) l₃ (inwards es y) w₂.sides w₂.labels

    join_lays : join_in degrees sides ends labels x y (length es) (length es) ≡ lay_in (up u) (label u) path sides labels
    unfolding join_path lay_in count_ahead
    join_lays =
        sym (join_law degrees sides ends labels w₁.sides w₁.labels w₂.sides w₂.labels w₃.sides w₃.labels x y (length es) (length es) dx dy u (far es dy y)
        (get_or m.labels u 0) l₁ l₂ l₃ w₁.count w₂.count w₃.count (up u) side_x side_y rises (sym wears) f.first f.second refl refl f.third
        (sym (relabel_lays pr sh (up u) (length es) w₂.sides w₂.labels l₃ walk_at iy.trail iy.singular (omega (arith, walk_short)) f.room walk_once (turns l₁ l₂ (up u)))))

    -- what is read along y's chain; x and y wear no label, so that is all that is relabelled
    read_first : join_count_in degrees sides ends labels x y (length es) ≡ w₃.count
    unfolding label_vertex_in
    read_first =
        sym (join_count degrees sides ends labels x y (length es) dx dy u (far es dy y) (get_or m.labels u 0) l₁ l₂ l₃ w₃.count (up u) side_x side_y rises (sym wears) f.first f.second f.third
        (sym (count_lays pr sh labels (up u) (length es) w₂.sides w₂.labels l₃ walk_at iy.trail iy.singular (omega (arith, walk_short)) f.room walk_once
        (λ i s j. get_or-set_other w₁.labels y s.at l₂ 0 (walk_off y ly i s j) ∙ get_or-set_other labels x s.at l₁ 0 (walk_off x lx i s j)))))

    reads_from : get_or labels x 0 ≡ 0 → get_or labels y 0 ≡ 0
        → join_count_in degrees sides ends labels x y (length es) ≡ (join_in degrees sides ends labels x y (length es) (length es)).count
    unfolding join_path lay_in count_ahead label_vertex_in moved
    reads_from zx zy =
        let zy' : get_or (set labels x l₁) y 0 ≡ 0 = get_or-set_other labels x y l₁ 0 (λ q. xy (sym q)) ∙ zy in
        rw join_lays (omega (arith, read_first, moved_old (get_or labels x 0) l₁ zx, moved_old (get_or (set labels x l₁) y 0) l₂ zy'))

  -- the nearest regular vertex of x's chain
  record Nearest : Type 0 where
    first : Pass
    others : List Pass
    are : inwards es x ≡ first ∷ others
    at_far : first.at ≡ far es dx x
    regular : is_regular es first.at ≡ true

  nearest : 0 < length (inwards es x) → Nearest
  nearest h = go (inwards es x) refl h
    where
      go : (ss : List Pass) → inwards es x ≡ ss → 0 < length ss → Nearest
      go [] e l = absurd (omega arith)
      go (u ∷ us) e l =
          let hd = trail_cons (rw e at (inward es pr x dx lx ax).trail) in
          record { first = u; others = us; are = e; at_far = hd.0; regular = rw hd.0 hd.1 }

  -- the chain of x has regular vertices: what is left is what `attach` says of the whole path
  pub joins : (blocks : ℕ) → 0 < length (inwards es x)
      → let j = join_in degrees sides ends labels x y (length es) (length es) in
      ChangedAs new labels (changed j.sides j.labels blocks j.count false) (attach blocks dx (inwards es x) path m)
  joins blocks h =
      let n : Nearest = nearest h in
      let u : Pass = n.first in
      rw (join_lays u.at n.at_far n.regular, n.are, attach_some blocks dx u n.others path m) (record {
        holds = record { kept = laid_kept (up u.at) (label u.at); blocks_are = refl };
        counts = laid_counts (up u.at) (label u.at);
      })

  -- what is read before the join is what the join then counts
  pub join_reads : 0 < length (inwards es x) → get_or labels x 0 ≡ 0 → get_or labels y 0 ≡ 0
      → join_count_in degrees sides ends labels x y (length es) ≡ (join_in degrees sides ends labels x y (length es) (length es)).count
  join_reads h = let n : Nearest = nearest h in reads_from n.first.at n.at_far n.regular

  -- neither chain has any: a new block
  begin_lays : (i : ℕ) → inwards es y ≡ [] → let l = lay_in true (base i) path sides labels in let w = begin_in sides labels x dx y dy (length es) i in
      (w.sides ≡ l.sides) × (w.labels ≡ l.labels)
  unfolding join_path lay_in count_ahead begin_in next
  begin_lays i e = rw e (refl, refl)

  begin_counts : (i : ℕ) → get_or labels x 0 ≡ 0 → get_or labels y 0 ≡ 0 → relabel_count labels (begin_in sides labels x dx y dy (length es) i).labels ≡ 0
  unfolding begin_in label_vertex_in
  begin_counts i zx zy = omega (arith, relabel_count_bare labels (set labels x (base i)) y (base i + 1) zy, relabel_count_bare labels labels x (base i) zx, relabel_count_same labels)

  -- neither chain has regular vertices: what is left is the new block that `attach` says
  pub begins : (blocks : ℕ) → inwards es x ≡ [] → inwards es y ≡ [] → get_or labels x 0 ≡ 0 → get_or labels y 0 ≡ 0
      → let w = begin_in sides labels x dx y dy (length es) (blocks + 1) in
      ChangedAs new labels (changed w.sides w.labels (blocks + 1) 0 false) (attach blocks dx (inwards es x) path m)
  begins blocks a b zx zy =
      let p = begin_lays (blocks + 1) b in
      rw (a, attach_none blocks dx path m) (record {
        holds = record { kept = rw (p.0, p.1) (laid_kept true (base (blocks + 1))); blocks_are = refl };
        counts = begin_counts (blocks + 1) zx zy;
      })
