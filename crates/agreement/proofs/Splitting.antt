-- Regular ends of the new edge are split, and their rings tapped: the sides, labels and counts that the definitions say.
use Rattle.std.specs.Prelude.{if◌then◌else◌}
use mathlib.Core.Path.{◌≡◌, refl, sym, ◌∙◌}
use mathlib.Core.Logic.{◌≢◌, ◌⊎◌, inl, inr}
use Prim.Native.Nat.{ℕ, ◌+◌, ◌*◌, ◌≤◌, ◌<◌}
use native.Mathlib.Omega.{arith}
use native.Mathlib.Decide.{ℕ_discrete, dec_lt}
use mathlib.Core.Bool.{Bool, true, false}
use mathlib.Core.List.{List, [], ◌∷◌}
use lib.ListN.{length, get_or, set, length-set, get_or-eq_default}
use lib.Seq.{get_or-set_same, get_or-set_other}
use Rattle.model.specs.Basics.{max_vertices}
use Rattle.model.specs.Graph.{Edge, Pass, degree, lower_numbered, once_round}
use Rattle.model.specs.Labels.{Labelling, Marks, base, label_path, mark, next, relabel_count, vertex_on_ring, split, split_or_tap, tap}
use Rattle.tables.specs.Steps.{most16, most32, set_pair}
use Rattle.tables.specs.declared.rings.Round.{Round as Answer}
use Rattle.tables.specs.declared.rings.Round.TheVariants.{NoRing, Ring}
use Rattle.tables.proofs.Sums.{more16_is}
use Rattle.labels.specs.Labelling.{MarksIn, count_ahead, label_vertex_in, marks_in}
use Rattle.labels.specs.Changes.{Changed}
use Rattle.parting.specs.Splitting.{bare_in, split_by, tap_in}
use Rattle.counting.specs.Counting.{round_count}
use Rattle.theory.proofs.Labels.Relabellings.{moved_new}
use Rattle.model.proofs.Walks.Degree.{Proper, is_two}
use Rattle.model.proofs.Walks.Turn.{At, Between}
use Rattle.model.proofs.Walks.Joins.{Across, across}
use Rattle.model.proofs.Walks.Places.{Ith, Off, Once}
use Rattle.model.proofs.Walks.Once.{first_at_once}
use Rattle.model.proofs.Walks.Ended.{first_short}
use Rattle.model.proofs.Walks.Round.{Round, ring_round}
use Rattle.agreement.proofs.Lists.{PairAt, length_pair, pair_here, pair_other}
use Rattle.agreement.proofs.Relabelled.{relabelled_set}
use Rattle.agreement.proofs.Linked.{Linked, linked_other, turn_agrees}
use Rattle.agreement.proofs.Lockstep.{Shows}
use Rattle.agreement.proofs.Passes.{AllBetween, between_ith, trail_between}
use Rattle.agreement.proofs.Laying.{HoldsMarks, Turns, lay_counts, lay_off, lay_within, lay_in, relabel_all}
use Rattle.agreement.proofs.Renewing.{AllOlder, Older, lay_renews}
use Rattle.agreement.proofs.Ringing.{lower_at, lower_is}

-- ---- lengths and sizes of labels along a path

-- labels laid along a path leave the table's length
pub lay_long : (up : Bool) (label : ℕ) (path : List Pass) (sides labels : List ℕ) → length (lay_in up label path sides labels).labels ≡ length labels
unfolding lay_in count_ahead label_vertex_in
lay_long up label [] sides labels = refl
lay_long up label (s ∷ ss) sides labels =
    let w = label_vertex_in sides labels s.at label s.before s.after up in
    lay_long up (next up label) ss w.sides w.labels ∙ length-set labels s.at label

pub set_small : (xs : List ℕ) (x a n : ℕ) → a < n → ((v : ℕ) → get_or xs v 0 < n) → (v : ℕ) → get_or (set xs x a) v 0 < n
set_small xs x a n l h v = go (ℕ_discrete v x) (dec_lt x (length xs))
  where
    go : Dec (v ≡ x) → Dec (x < length xs) → get_or (set xs x a) v 0 < n
    go (no e) d = omega (arith, get_or-set_other xs x v a 0 e, h v)
    go (yes e) (yes d) = rw e (omega (arith, get_or-set_same xs x a 0 d))
    go (yes e) (no d) =
        let z : get_or (set xs x a) x 0 ≡ 0 = get_or-eq_default (set xs x a) 0 (omega (arith, length-set xs x a)) in
        rw e (omega (arith, z, l))

pub lay_small : (label : ℕ) (path : List Pass) (sides labels : List ℕ) (n : ℕ) → label + length path < n → ((v : ℕ) → get_or labels v 0 < n)
    → (v : ℕ) → get_or (lay_in true label path sides labels).labels v 0 < n
unfolding lay_in count_ahead label_vertex_in next
lay_small label [] sides labels n l h v = h v
lay_small label (s ∷ ss) sides labels n l h v =
    let w = label_vertex_in sides labels s.at label s.before s.after true in
    lay_small (label + 1) ss w.sides w.labels n (omega arith) (set_small labels s.at label n (omega arith) h) v

-- ---- some vertices are bare, all others as the marks say

-- the vertices of S have no sides, all others are as the marks say
pub record SplitAs (es : List Edge) (S : ℕ → Type 0) (sides labels : List ℕ) (m : Marks) : Type 0 where
  pub kept : HoldsMarks es (λ v. S v → ⊥) sides labels m
  pub off : (v : ℕ) → v < max_vertices → S v → PairAt sides v 0 0

-- x, and who is in S
abbrev pub Also : ℕ → (ℕ → Type 0) → ℕ → Type 0
Also x S v = (v ≡ x) ⊎ S v

-- one vertex more is bared, in the tables and in the marks
pub bared_as : (es : List Edge) (S : ℕ → Type 0) (sides labels : List ℕ) (m : Marks) (x : ℕ) → x < max_vertices → SplitAs es S sides labels m
    → SplitAs es (Also x S) (bare_in sides labels x).sides (bare_in sides labels x).labels (split x m)
unfolding bare_in split mark
bared_as es S sides labels m x l k =
    record {
      kept = record {
        labels_are = rw k.kept.labels_are;
        links = λ v b n. linked_other es sides m.lows v x 0 0 0 (λ e. n (inl e)) (k.kept.links v b (λ s. n (inr s)));
        sides_long = length_pair sides x 0 0 ∙ k.kept.sides_long;
        lows_long = length-set m.lows x 0 ∙ k.kept.lows_long;
      };
      off = off;
    }
  where
    at_x : PairAt (set_pair sides x 0 0) x 0 0
    at_x = pair_here sides x 0 0 (omega (arith, k.kept.sides_long))

    off : (v : ℕ) → v < max_vertices → (v ≡ x) ⊎ S v → PairAt (set_pair sides x 0 0) v 0 0
    off v b (inl e) = rw e at_x
    off v b (inr s) = go (ℕ_discrete v x)
      where
        go : Dec (v ≡ x) → PairAt (set_pair sides x 0 0) v 0 0
        go (yes e) = rw e at_x
        go (no n) = let p = pair_other sides x v 0 0 n in let q = k.off v b s in (p.0 ∙ q.0, p.1 ∙ q.1)

-- a path off the bare vertices is labelled, in the tables and in the marks
pub laid_as : (es : List Edge) → ((v d : ℕ) → At es v d → v < max_vertices) → (S : ℕ → Type 0) (sides labels : List ℕ) (m : Marks) (label : ℕ) (path : List Pass)
    → AllBetween es path → ((v : ℕ) → S v → Off path v) → SplitAs es S sides labels m
    → SplitAs es S (lay_in true label path sides labels).sides (lay_in true label path sides labels).labels (label_path true label path m)
laid_as es below S sides labels m label path b o k =
    record {
      kept = lay_within es below (λ v. S v → ⊥) true label path sides labels m b k.kept;
      off = λ v l s. let p = (lay_off true label path sides labels v (o v s)).0 in let q = k.off v l s in (p.0 ∙ q.0, p.1 ∙ q.1);
    }

-- ---- a ring is tapped

module _ {es : List Edge} (pr : Proper es) {degrees sides₀ ends lows₀ : List ℕ} (sh : Shows es degrees sides₀ ends lows₀) (v : ℕ) (two : degree es v ≡ 2) where
  abbrev d : ℕ
  d = lower_numbered es v

  abbrev rd : List Pass
  rd = once_round es (lower_numbered es v) v

  at_v : At es v d
  at_v = lower_at es pr v two

  -- the vertex is below 4,096
  pub below_v : v < max_vertices
  below_v = sh.below v d at_v

  x : Across es d v
  x = across es d v pr at_v

  module _ (t : vertex_on_ring es v ≡ true) where
    r : Round es d v
    unfolding vertex_on_ring
    r = ring_round es pr d v t at_v

    -- once round from v: regular vertices, none twice, and not v
    pub rd_between : AllBetween es (once_round es (lower_numbered es v) v)
    rd_between = trail_between pr x.at r.trail

    pub rd_once : Once (once_round es (lower_numbered es v) v)
    rd_once = first_at_once es pr x.at r.trail r.off

    pub rd_short : length (once_round es (lower_numbered es v) v) < length es
    rd_short = first_short es pr x.at r.trail r.off

    -- if all regular vertices wear older labels, so do those of the round
    pub rd_older : (labels : List ℕ) (label : ℕ) → AllOlder es labels label → Older labels label (once_round es (lower_numbered es v) v)
    rd_older labels label h i s j = h s.at (is_two es s.at (between_ith rd rd_between i s j).regular)

    -- once round from v does not pass v
    pub rd_off : Off (once_round es (lower_numbered es v) v) v
    rd_off = r.off

    -- a tap over the tables lays labels round the ring, and bares the vertex
    pub tap_lays : (S : ℕ → Type 0) (sides lows labels : List ℕ) (k : ℕ) → ((u : ℕ) → u < max_vertices → (S u → ⊥) → Linked es sides lows u)
        → (S v → ⊥) → ((u : ℕ) → S u → Off (once_round es (lower_numbered es v) v) u) → base k + length es < most32
        → let l = lay_in true (base k) (once_round es (lower_numbered es v) v) sides labels in
        tap_in degrees sides ends labels v k (length (once_round es (lower_numbered es v) v)) ≡ marks_in (bare_in l.sides l.labels v).sides (bare_in l.sides l.labels v).labels l.count
    unfolding tap_in
    tap_lays S sides lows labels k links nv off b =
        rw (lower_is es pr sides lows v two (links v below_v nv), sh.fars_are d v at_v.inside, relabel_all pr sh true sides labels (base k) x.at r.trail (omega (arith, rd_short)) rd_once turns)
      where
        turns : Turns sides rd
        turns i s j =
            let b : Between es s.at s.before s.after = between_ith rd rd_between i s j in
            turn_agrees es sides lows s.at s.before pr (links s.at (sh.below s.at s.before b.before_at) (λ q. off s.at q i s j refl)) (is_two es s.at b.regular) b.before_at
            ∙ b.forth

-- ---- one end is split, by the test of the definition

-- which split the tests say, where the other end is not met on the way
abbrev pub by_test : Bool → ℕ → Answer
by_test t n = if t then Ring n else NoRing

-- what it leaves, with the vertices of S bare before and labels ts before the edge
pub record SplitOne (es : List Edge) (S : ℕ → Type 0) (ts labels : List ℕ) (v blocks : ℕ) (g : Changed) (l : Labelling) : Type 0 where
  pub holds : SplitAs es (Also v S) g.sides g.labels l.marks
  pub blocks_are : g.blocks ≡ l.blocks
  pub counts : relabel_count ts g.labels ≡ relabel_count ts labels + g.relabellings
  pub same : (u : ℕ) → u ≢ v → (vertex_on_ring es v ≡ true → Off (once_round es (lower_numbered es v) v) u) → get_or g.labels u 0 ≡ get_or labels u 0
  pub long : length g.labels ≡ length labels
  pub small : ((u : ℕ) → get_or labels u 0 < most32) → (u : ℕ) → get_or g.labels u 0 < most32
  pub blocks_few : l.blocks ≤ blocks + 1
  pub blocks_more : blocks ≤ l.blocks
  -- round about a vertex on a ring all are relabelled if they wear older labels; that many are read before
  pub reads : (vertex_on_ring es v ≡ true → Older labels (base (blocks + 1)) (once_round es (lower_numbered es v) v))
      → round_count (by_test (vertex_on_ring es v) (length (once_round es (lower_numbered es v) v))) ≡ g.relabellings

module _ {es : List Edge} (pr : Proper es) {degrees sides₀ ends lows₀ : List ℕ} (sh : Shows es degrees sides₀ ends lows₀) (v w : ℕ) (two : degree es v ≡ 2)
    (S : ℕ → Type 0) (ts sides labels : List ℕ) (m : Marks) (blocks : ℕ) (k : SplitAs es S sides labels m) (nv : S v → ⊥)
    (lt : length ts ≡ length labels) (v-same : get_or labels v 0 ≡ get_or ts v 0) (few : blocks < most16) (room : base (blocks + 1) + length es < most32) where
  abbrev around : List Pass
  around = once_round es (lower_numbered es v) v

  splits_ring : (t : vertex_on_ring es v ≡ true) → ((u : ℕ) → S u → Off around u) → ((i : ℕ) (s : Pass) → Ith s i around → get_or labels s.at 0 ≡ get_or ts s.at 0)
      → SplitOne es S ts labels v blocks (split_by (Ring (length around)) degrees sides ends labels blocks v w)
      (record { blocks = blocks + 1; marks = split v (label_path true (base (blocks + 1)) around m) })
  unfolding bare_in
  splits_ring t off on_same =
      rw (more16_is blocks few, tap_lays pr sh v two t S sides m.lows labels (blocks + 1) k.kept.links nv off room) (record {
        holds = bared_as es S l.sides l.labels (label_path true (base (blocks + 1)) around m) v (below_v pr sh v two)
            (laid_as es sh.below S sides labels m (base (blocks + 1)) around (rd_between pr sh v two t) off k);
        blocks_are = refl;
        counts = omega (
          arith,
          relabelled_set ts l.labels v 0 (lt ∙ sym long) (o.1 ∙ v-same),
          moved_new (get_or l.labels v 0),
          lay_counts ts true (base (blocks + 1)) around sides labels lt (rd_once pr sh v two t) on_same,
        );
        same = λ u n f. get_or-set_other l.labels v u 0 0 n ∙ (lay_off true (base (blocks + 1)) around sides labels u (f t)).1;
        long = length-set l.labels v 0 ∙ long;
        small = λ h. set_small l.labels v 0 most32 (omega arith) (lay_small (base (blocks + 1)) around sides labels most32 (omega (arith, rd_short pr sh v two t)) h);
        blocks_few = omega arith;
        blocks_more = omega arith;
        reads = λ older. rw t (sym (lay_renews (base (blocks + 1)) around sides labels (rd_once pr sh v two t) (older t)));
      })
    where
      l : MarksIn
      l = lay_in true (base (blocks + 1)) around sides labels

      long : length (lay_in true (base (blocks + 1)) around sides labels).labels ≡ length labels
      long = lay_long true (base (blocks + 1)) around sides labels

      o : PairAt l.sides v (get_or sides (2 * v) 0) (get_or sides (2 * v + 1) 0) × (get_or l.labels v 0 ≡ get_or labels v 0)
      o = lay_off true (base (blocks + 1)) around sides labels v (rd_off pr sh v two t)

  splits_none : vertex_on_ring es v ≡ false → SplitOne es S ts labels v blocks (split_by NoRing degrees sides ends labels blocks v w) (record { blocks = blocks; marks = split v m })
  unfolding bare_in
  splits_none t = record {
    holds = bared_as es S sides labels m v (below_v pr sh v two) k;
    blocks_are = refl;
    counts = omega (arith, relabelled_set ts labels v 0 lt v-same, moved_new (get_or labels v 0));
    same = λ u n f. get_or-set_other labels v u 0 0 n;
    long = length-set labels v 0;
    small = λ h. set_small labels v 0 most32 (omega arith) h;
    blocks_few = omega arith;
    blocks_more = omega arith;
    reads = λ older. rw t;
  }

  -- one end split over the tables: the sides, labels and counts that `split_or_tap` says
  pub splits_one : (vertex_on_ring es v ≡ true → (u : ℕ) → S u → Off around u) → (vertex_on_ring es v ≡ true → (i : ℕ) (s : Pass) → Ith s i around → get_or labels s.at 0 ≡ get_or ts s.at 0)
      → SplitOne es S ts labels v blocks (split_by (by_test (vertex_on_ring es v) (length (once_round es (lower_numbered es v) v))) degrees sides ends labels blocks v w) (split_or_tap es blocks v m)
  unfolding split_or_tap tap
  splits_one off on_same = go (vertex_on_ring es v) refl
    where
      go : (b : Bool) → vertex_on_ring es v ≡ b
          → SplitOne es S ts labels v blocks (split_by (by_test b (length around)) degrees sides ends labels blocks v w)
          (if b then record { blocks = blocks + 1; marks = split v (label_path true (base (blocks + 1)) around m) } else record { blocks = blocks; marks = split v m })
      go true t = splits_ring t (off t) (on_same t)
      go false t = splits_none t
