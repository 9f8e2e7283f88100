-- A leaf of the new edge whose other end is no leaf: its chain goes on over the edge.
use mathlib.Core.Path.{◌≡◌, refl, sym, ap, ◌∙◌}
use mathlib.Core.Logic.{◌≢◌}
use Prim.Native.Nat.{ℕ, ◌+◌, ◌<◌}
use native.Mathlib.Omega.{arith}
use mathlib.Core.Bool.{Bool, true, false, not}
use mathlib.Core.List.{List, [], ◌∷◌, ◌++◌}
use lib.ListN.{length, get_or}
use lib.Dec.{eqb}
use Rattle.model.specs.Basics.{max_vertices}
use Rattle.model.specs.Graph.{Edge, Pass, degree, ends_at, far, is_regular, only_edge, onwards, turn, walk}
use Rattle.model.specs.Labels.{Labelling, Marks, attach, base, extend, label_path, next}
use Rattle.tables.specs.Steps.{far_in, most16, most32}
use Rattle.tables.proofs.Sums.{more16_is}
use Rattle.labels.proofs.Labels.{beyond_law, extend_begun, extend_on, next_in_is}
use Rattle.labels.specs.Labelling.{count_ahead, extend_in, label_vertex_in}
use Rattle.model.proofs.Walks.Degree.{Proper, is_two, not_two}
use Rattle.model.proofs.Walks.Turn.{At, Between, OneEdge, one_edge_lem, only_edge_is}
use Rattle.model.proofs.Walks.Joins.{across, far_ne}
use Rattle.model.proofs.Walks.Trail.{walk_on, walk_stop}
use Rattle.model.proofs.Walks.Snoc.{far_old}
use Rattle.model.proofs.Walks.NewEdge.{at_new, length_new}
use Rattle.model.proofs.Walks.NewTurn.{new_turn}
use Rattle.model.proofs.Walks.Places.{here, Off}
use Rattle.agreement.proofs.Linked.{Linked}
use Rattle.agreement.proofs.Laying.{Everywhere, HoldsMarks, kept_where, lay_kept, lay_in}
use Rattle.agreement.proofs.Opening.{OpenedBoth}

-- ---- attaching: the two cases of the definition

-- a number of blocks and some marks
abbrev pub labelling : ℕ → Marks → Labelling
labelling blocks m = record { blocks = blocks; marks = m }

-- a chain without regular vertices: a new block; else the labels go on from the nearest
pub attach_none : (blocks d : ℕ) (path : List Pass) (m : Marks) → attach blocks d [] path m ≡ labelling (blocks + 1) (label_path true (base (blocks + 1)) path m)
unfolding attach
attach_none blocks d path m = refl

pub attach_some : (blocks d : ℕ) (u : Pass) (us path : List Pass) (m : Marks)
    → let up = not (eqb (get_or m.lows u.at 0) d) in
    attach blocks d (u ∷ us) path m ≡ labelling blocks (label_path up (next up (get_or m.labels u.at 0)) path m)
unfolding attach
attach_some blocks d u us path m = refl

-- ---- a leaf of before becomes regular

-- the one edge of a leaf lies at it
pub leaf_at : (es : List Edge) → Proper es → (x : ℕ) → degree es x ≡ 1 → At es x (only_edge es x)
leaf_at es pr x one =
    let e : OneEdge es x = one_edge_lem es x pr one in
    rw (only_edge_is es x e.edge pr one e.at) e.at

-- a leaf that the new edge meets lies between its edge and the new one
pub leaf_between : (es : List Edge) (n : Edge) → Proper es → n.first ≢ n.second → (x : ℕ) → degree es x ≡ 1 → ends_at x n ≡ 1
    → Between (es ++ (n ∷ [])) x (only_edge es x) (length es)
leaf_between es n pr df x one o = new_turn es n pr df x (only_edge es x) o one (leaf_at es pr x one)

-- ---- they agree

-- the sides, labels and blocks that a labelling says
pub record HoldsLabelling (es : List Edge) (sides labels : List ℕ) (blocks : ℕ) (g : Labelling) : Type 0 where
  pub kept : HoldsMarks es Everywhere sides labels g.marks
  pub blocks_are : blocks ≡ g.blocks

module _ (es : List Edge) (n : Edge) (pr : Proper es) (df : n.first ≢ n.second) (below : (v d : ℕ) → At (es ++ (n ∷ [])) v d → v < max_vertices)
    (degrees ends : List ℕ) (ds : (v : ℕ) → v < max_vertices → get_or degrees v 0 ≡ degree (es ++ (n ∷ [])) v)
    (fars : (d v : ℕ) → d < length es → far_in ends d v ≡ far es d v)
    (x : ℕ) (o : ends_at x n ≡ 1) (one : degree es x ≡ 1) (apart : (v : ℕ) → v ≢ x → ends_at v n ≡ 1 → degree es v ≢ 1) where
  abbrev new : List Edge
  new = es ++ (n ∷ [])

  abbrev d : ℕ
  d = only_edge es x

  abbrev u : ℕ
  u = far es d x

  abbrev path : List Pass
  path = record { before = d; at = x; after = length es } ∷ []

  off_path : (v : ℕ) → Off path v → ends_at v n ≡ 1 → degree es v ≢ 1
  off_path v f = apart v (λ e. f 0 _ here (sym e))

  -- what the tables are left with is what `extend` says
  pub extended : (sides labels : List ℕ) (blocks : ℕ) (m : Marks) → OpenedBoth es n sides labels m → blocks < most16 → ((v : ℕ) → get_or labels v 0 < most32)
      → let w = extend_in degrees sides ends labels blocks x (length es) in HoldsLabelling new w.sides w.labels w.count (extend es new blocks x m)
  unfolding extend attach onwards lay_in count_ahead
  extended sides labels blocks m q bb lb = go (is_regular new u) refl
    where
      a : At es x d
      a = leaf_at es pr x one

      u_is : far new d x ≡ u
      u_is = far_old es n d x a.inside

      u_below : u < max_vertices
      u_below = below u d (at_new es n (across es d x pr a).at)

      -- the one vertex is labelled
      laid : (up : Bool) (label : ℕ) → let w = label_vertex_in sides labels x label d (length es) up in HoldsMarks new Everywhere w.sides w.labels (label_path up label path m)
      laid up label = lay_kept new below up label path sides labels m (leaf_between es n pr df x one o, tt) (kept_where (Off path) off_path q.kept)

      go : (c : Bool) → is_regular new u ≡ c → let w = extend_in degrees sides ends labels blocks x (length es) in
          HoldsLabelling new w.sides w.labels w.count (attach blocks d (walk (length new) new d (far new d x)) path m)
      go true c =
          let k : Linked new sides m.lows u = q.kept.links u u_below (apart u (far_ne es d x pr a)) in
          let up : Bool = not (eqb (get_or m.lows u 0) d) in
          let label : ℕ = get_or m.labels u 0 in
          let t : get_or labels u 0 ≡ label = ap (λ (l : List ℕ). get_or l u 0) q.kept.labels_are in
          let w = label_vertex_in sides labels x (next up label) d (length es) up in
          let s : walk (length new) new d (far new d x) ≡ record { before = d; at = u; after = turn new d u } ∷ walk (length es) new (turn new d u) (far new (turn new d u) u) =
          rw (u_is, length_new es n) (walk_on (length es) new d u c) in
          rw (
            s,
            ← extend_on degrees sides ends labels w.sides w.labels blocks x (length es) d u (sym (q.leaf x o one), sym (fars d x a.inside))
                (ds u u_below ∙ is_two new u c) (beyond_law sides labels w.sides w.labels x (length es) d u label (next up label) w.count up (ap (λ (z : ℕ). not (eqb z d)) (sym (k.regular (is_two new u c)).0)) (sym t) (sym (next_in_is up label (omega (arith, lb u, t)))) refl),
          )
          (record { kept = laid up (next up label); blocks_are = refl })
      go false c =
          let w = label_vertex_in sides labels x (base (blocks + 1)) d (length es) true in
          let s : walk (length new) new d (far new d x) ≡ [] = rw u_is (walk_stop (length new) new d u c) in
          rw (
            s,
            attach_none blocks d path m,
            ← extend_begun degrees sides ends labels w.sides w.labels blocks x (length es) d u (sym (q.leaf x o one), sym (fars d x a.inside)) (blocks + 1) (base (blocks + 1)) w.count
                (λ z. not_two new u c (sym (ds u u_below) ∙ z)) (sym (more16_is blocks bb)) refl refl,
          )
          (record { kept = laid true (base (blocks + 1)); blocks_are = refl })
