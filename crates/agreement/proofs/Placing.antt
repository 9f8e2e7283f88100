-- One edge into the tables of a register that landing leaves, by what is done for it: the degrees, sides, labels and counts that the
-- definitions leave, and whether it closes a ring.
use Rattle.std.specs.Prelude.{Some, None}
use mathlib.Core.Path.{◌≡◌, refl, sym, ap, ◌∙◌}
use mathlib.Core.Logic.{◌≢◌, ◌⊎◌, inl, inr}
use Prim.Native.Nat.{ℕ, ◌+◌, ◌≤◌, ◌<◌}
use native.Mathlib.Omega.{arith}
use mathlib.Core.Bool.{Bool, true, false}
use mathlib.Core.List.{List, [], ◌∷◌, ◌++◌}
use lib.ListN.{length, get_or, set}
use Rattle.model.specs.Basics.{max_vertices}
use Rattle.model.specs.Graph.{Edge, Pass, degree, ends_at, far, only_edge, onwards, same}
use Rattle.model.specs.Cases.{closes_ring}
use Rattle.model.specs.Labels.{Labelling, Marks, attach, base, close, extend, label_path, mark, merge, relabel_count, split_or_tap, split_two}
use Rattle.model.specs.Register.{Register}
use Rattle.model.specs.Tables.{tables_of}
use Rattle.model.specs.Notions.{Reachable}
use Rattle.tables.specs.Steps.{most16, most32, raise_both_in}
use Rattle.tables.specs.declared.rings.Round.{Round}
use Rattle.tables.specs.declared.rings.Round.TheVariants.{NoRing, Ring, Shared}
use Rattle.tables.specs.Rounds.{ring_in}
use Rattle.labels.specs.Labelling.{MarksIn, extend_in}
use Rattle.labels.specs.Changes.{Changed, changed}
use Rattle.joining.specs.Merging.{merge_in}
use Rattle.parting.specs.Splitting.{split_both_in, split_by, split_ends_in, split_in}
use Rattle.counters.specs.Numbers.{vertex_of}
use Rattle.parting.specs.declared.splitting.Splits.TheVariants.{Both, Neither, One}
use Rattle.placement.specs.Placing.{Placed, goes_on_in, meet_in, merged_in, open_in, opened_in, placed}
use Rattle.model.proofs.Walks.Degree.{end_first, end_second, two_ends}
use Rattle.theory.proofs.Labels.Relabellings.{moved_old, relabel_count_same}
use Rattle.theory.proofs.Registers.Small.{blocks_small, labels_small}
use Rattle.agreement.proofs.Relabelled.{relabelled_set}
use Rattle.agreement.proofs.Lockstep.{Shows}
use Rattle.agreement.proofs.Laying.{Everywhere, kept_where}
use Rattle.agreement.proofs.Splitting.{Also, SplitAs, SplitOne}
use Rattle.agreement.proofs.SplittingBoth.{Nobody, SplitTwo, singular_off, splits_single, whole_as}
use Rattle.agreement.proofs.SplittingTwice.{splits_both}
use Rattle.agreement.proofs.Standing.{Warns, both_as, one_as}
use Rattle.agreement.proofs.Opening.{OpenedBoth, opened_both}
use Rattle.agreement.proofs.Extending.{HoldsLabelling, extended, labelling}
use Rattle.agreement.proofs.Joining.{ChangedAs, Ground}
use Rattle.agreement.proofs.Merging.{merging_closes, merging_open}
use Rattle.agreement.proofs.Merged.{merges}
use Rattle.agreement.proofs.Closing.{closes}
use Rattle.agreement.proofs.Tables.{degrees_long, degrees_read, length_raised, raised, shows, sides_long}
use Rattle.agreement.proofs.Registers.{few, labels_long, lows_long, new_below, no_label, proper, room}

-- attaching one vertex stores one label
attach_one : (blocks d : ℕ) (kept : List Pass) (s : Pass) (m : Marks) → (label : ℕ) × ((attach blocks d kept (s ∷ []) m).marks.labels ≡ set m.labels s.at label)
unfolding attach label_path mark
attach_one blocks d [] s m = (_, refl)
attach_one blocks d (u ∷ us) s m = (_, refl)

-- a split closes no ring
split_open : (round : Round) (degrees sides ends labels : List ℕ) (blocks v w : ℕ) → (split_by round degrees sides ends labels blocks v w).ring ≡ false
split_open NoRing degrees sides ends labels blocks v w = refl
split_open (Ring n) degrees sides ends labels blocks v w = refl
split_open (Shared n) degrees sides ends labels blocks v w = refl

-- ---- the tables that change, as the labelling says, and whether a ring is closed

-- degrees, sides, labels, blocks and the count of relabellings are those of labelling g, and whether a ring is closed
pub record Stands (es : List Edge) (labels : List ℕ) (p : Placed) (g : Labelling) (ring : Bool) : Type 0 where
  pub long : length p.degrees ≡ max_vertices
  pub degrees_are : (v : ℕ) → v < max_vertices → get_or p.degrees v 0 ≡ degree es v
  pub holds : HoldsLabelling es p.sides p.labels p.blocks g
  pub counts : relabel_count labels p.labels ≡ p.relabellings
  pub ring_is : p.ring ≡ ring

-- what the splits left: the vertices of S are bare
record Cut (es : List Edge) (n : Edge) (ts : List ℕ) (S : ℕ → Type 0) (c : Changed) (l : Labelling) : Type 0 where
  as_split : SplitAs es S c.sides c.labels l.marks
  only : (v : ℕ) → S v → (ends_at v n ≡ 1) × (degree es v ≡ 2)
  all : (v : ℕ) → ends_at v n ≡ 1 → degree es v ≡ 2 → S v
  blocks_are : c.blocks ≡ l.blocks
  counts : relabel_count ts c.labels ≡ c.relabellings
  is_open : c.ring ≡ false

module _ (r : Register) (e : Edge) (rings : Bool) (g : Reachable r) (warns : Warns rings r.edges) (fa : e.first < r.vertices) (fb : e.second < r.vertices)
    (df : e.first ≢ e.second) where
  abbrev es : List Edge
  es = r.edges

  abbrev new : List Edge
  new = r.edges ++ (e ∷ [])

  abbrev a : ℕ
  a = e.first

  abbrev b : ℕ
  b = e.second

  abbrev degrees : List ℕ
  degrees = (tables_of r).degrees

  abbrev sides : List ℕ
  sides = (tables_of r).sides

  abbrev ends : List ℕ
  ends = (tables_of r).ends

  abbrev m : Marks
  m = record { labels = r.labels; lows = r.lows }

  below_a : a < max_vertices
  below_a = omega (arith, few r g)

  below_b : b < max_vertices
  below_b = omega (arith, few r g)

  sh : Shows es degrees sides ends m.lows
  sh = shows r g

  -- before the edge nothing is bare
  pub whole : SplitAs es Nobody sides r.labels m
  whole = whole_as sh refl (sides_long r) (lows_long r g)

  small : (v : ℕ) → get_or r.labels v 0 < most32
  small v = omega (arith, labels_small r g v)

  -- one more block, and its labels, stay within their types
  pub few_blocks : r.blocks ≤ 8192
  few_blocks = omega (arith, blocks_small r g, room r g)

  pub room_at : base (r.blocks + 1) + length es < most32
  unfolding base
  room_at = omega (arith, few_blocks, room r g)

  oa : ends_at a e ≡ 1
  oa = end_first e df

  ob : ends_at b e ≡ 1
  ob = end_second e df

  ba : b ≢ a
  ba q = df (sym q)

  sums : (v : ℕ) → same a v + same b v ≡ ends_at v e
  unfolding ends_at
  sums v = refl

  raised_are : (v : ℕ) → v < max_vertices → get_or (raise_both_in degrees a b) v 0 ≡ degree new v
  raised_are = raised es e degrees a b (proper r g) (room r g) (degrees_long r) below_a below_b sums (degrees_read r)

  raised_long : length (raise_both_in degrees a b) ≡ max_vertices
  raised_long = length_raised degrees a b ∙ degrees_long r

  -- ---- both ends opened, the vertices of S having been split
  module _ (S : ℕ → Type 0) (c : Changed) (l : Labelling) (k : Cut es e r.labels S c l) where
    abbrev met : List ℕ
    met = meet_in degrees (meet_in degrees c.sides a (length es)) b (length es)

    opened : OpenedBoth es e met c.labels l.marks
    opened = opened_both es e (proper r g) df degrees c.sides c.labels l.marks a b oa ob df below_a below_b (degrees_read r) S k.as_split k.only k.all

    -- no end is a leaf
    opens : degree es a ≢ 1 → degree es b ≢ 1 → Stands new r.labels (placed (raise_both_in degrees a b) met c.labels c.blocks c.relabellings c.ring) l false
    opens na nb = record {
      long = raised_long;
      degrees_are = raised_are;
      holds = record { kept = kept_where Everywhere (λ v _ o. none v (two_ends e a b v oa ob df o)) opened.kept; blocks_are = k.blocks_are };
      counts = k.counts;
      ring_is = k.is_open;
    }
      where
        none : (v : ℕ) → (v ≡ a) ⊎ (v ≡ b) → degree es v ≢ 1
        none v (inl q) = rw q na
        none v (inr q) = rw q nb

    -- z is a leaf, the other end w is none
    module _ (z w : ℕ) (oz : ends_at z e ≡ 1) (ow : ends_at w e ≡ 1) (zw : z ≢ w) (lz : degree es z ≡ 1) (nw : degree es w ≢ 1)
        (room-b : l.blocks < most16) (sm : (v : ℕ) → get_or c.labels v 0 < most32) (z-same : get_or c.labels z 0 ≡ get_or r.labels z 0)
        (c-long : length r.labels ≡ length c.labels) where
      abbrev extending : MarksIn
      extending = extend_in (raise_both_in degrees a b) met ends c.labels l.blocks z (length es)

      apart : (v : ℕ) → v ≢ z → ends_at v e ≡ 1 → degree es v ≢ 1
      apart v n o = go (two_ends e z w v oz ow zw o)
        where
          go : (v ≡ z) ⊎ (v ≡ w) → degree es v ≢ 1
          go (inl q) = absurd (n q)
          go (inr q) = rw q nw

      holds_z : HoldsLabelling new extending.sides extending.labels extending.count (extend es new l.blocks z l.marks)
      holds_z =
          extended es e (proper r g) df (new_below r g e fa fb) (raise_both_in degrees a b) ends raised_are sh.fars_are z oz lz apart met c.labels l.blocks l.marks opened room-b sm

      counts_z : relabel_count r.labels (extend es new l.blocks z l.marks).marks.labels ≡ c.relabellings
      unfolding extend
      counts_z =
          let q = attach_one l.blocks (only_edge es z) (onwards new (only_edge es z) (far new (only_edge es z) z)) (record { before = only_edge es z; at = z; after = length es }) l.marks in
          let is : c.labels ≡ l.marks.labels = k.as_split.kept.labels_are in
          let f : relabel_count r.labels (set c.labels z q.0) ≡ c.relabellings =
          omega (arith, relabelled_set r.labels c.labels z q.0 c-long z-same, moved_old (get_or c.labels z 0) q.0 (z-same ∙ no_label r g z (λ t. omega arith)), k.counts) in
          ap (λ (us : List ℕ). relabel_count r.labels us) q.1 ∙ ap (λ (us : List ℕ). relabel_count r.labels (set us z q.0)) (sym is) ∙ f

      goes_on : Stands new r.labels
          (goes_on_in (placed (raise_both_in degrees a b) met c.labels c.blocks c.relabellings c.ring) ends z (length es))
          (extend es new l.blocks z l.marks) false
      unfolding goes_on_in
      goes_on = rw k.blocks_are (record { long = raised_long; degrees_are = raised_are; holds = holds_z; counts = rw holds_z.kept.labels_are counts_z; ring_is = refl })

  -- ---- no end is regular
  module _ (na : degree es a ≢ 2) (nb : degree es b ≢ 2) where
    abbrev uncut : Changed
    uncut = changed sides r.labels r.blocks 0 false

    no_cut : Cut es e r.labels Nobody uncut (labelling r.blocks m)
    no_cut = record {
      as_split = whole;
      only = λ v s. absurd s;
      all = λ v o t. none v t (two_ends e a b v oa ob df o);
      blocks_are = refl;
      counts = relabel_count_same r.labels;
      is_open = refl;
    }
      where
        none : (v : ℕ) → degree es v ≡ 2 → (v ≡ a) ⊎ (v ≡ b) → ⊥
        none v t (inl q) = na (rw q at t)
        none v t (inr q) = nb (rw q at t)

    -- a new chain stands
    pub new_stands : degree es a ≢ 1 → degree es b ≢ 1
        → Stands new r.labels (open_in Neither None degrees sides ends r.labels r.blocks a b (length es) rings) (labelling r.blocks m) false
    unfolding opened_in
    new_stands la lb = opens Nobody uncut (labelling r.blocks m) no_cut la lb

    -- an extension stands
    pub extend_stands : (z w : ℕ) → ends_at z e ≡ 1 → ends_at w e ≡ 1 → z ≢ w → degree es z ≡ 1 → degree es w ≢ 1
        → Stands new r.labels (open_in Neither (Some (vertex_of z)) degrees sides ends r.labels r.blocks a b (length es) rings) (extend es new r.blocks z m) false
    unfolding opened_in
    extend_stands z w oz ow zw one nw = goes_on Nobody uncut (labelling r.blocks m) no_cut z w oz ow zw one nw (omega (arith, few_blocks)) small refl refl

  -- ---- v is regular, the other end w is not
  module _ (v w : ℕ) (ov : ends_at v e ≡ 1) (ow : ends_at w e ≡ 1) (vw : v ≢ w) (two : degree es v ≡ 2) (nw : degree es w ≢ 2) where
    abbrev c : Changed
    c = split_ends_in (One (vertex_of v) (vertex_of w)) degrees sides ends r.labels r.blocks a b (length es) rings

    abbrev left : Labelling
    left = split_or_tap es r.blocks v m

    c_is : c ≡ split_in degrees sides ends r.labels r.blocks v w (length es)
    c_is = one_as (proper r g) sh rings warns r.labels r.blocks a b v w two

    q : SplitOne es Nobody r.labels r.labels v r.blocks c left
    q = rw c_is (splits_single (proper r g) sh whole r.blocks v w two nw (omega (arith, few_blocks)) room_at)

    c_open : c.ring ≡ false
    unfolding split_in
    c_open = rw c_is (split_open (ring_in degrees sides ends v w (length es)) degrees sides ends r.labels r.blocks v w)

    one_cut : Cut es e r.labels (Also v Nobody) c left
    one_cut = record {
      as_split = q.holds;
      only = only;
      all = λ u o t. inl (is_v u t (two_ends e v w u ov ow vw o));
      blocks_are = q.blocks_are;
      counts = omega (arith, q.counts, relabel_count_same r.labels);
      is_open = c_open;
    }
      where
        only : (u : ℕ) → (u ≡ v) ⊎ ⊥ → (ends_at u e ≡ 1) × (degree es u ≡ 2)
        only u (inl i) = rw i (ov, two)
        only u (inr s) = absurd s

        is_v : (u : ℕ) → degree es u ≡ 2 → (u ≡ v) ⊎ (u ≡ w) → u ≡ v
        is_v u t (inl i) = i
        is_v u t (inr i) = absurd (nw (rw i at t))

    -- a split stands, where w is no leaf
    pub split_stands : degree es a ≢ 1 → degree es b ≢ 1
        → Stands new r.labels (open_in (One (vertex_of v) (vertex_of w)) None degrees sides ends r.labels r.blocks a b (length es) rings) left false
    unfolding opened_in
    split_stands la lb = opens (Also v Nobody) c left one_cut la lb

    -- a split with an extension stands, where w is a leaf
    pub split_extend_stands : degree es w ≡ 1
        → Stands new r.labels (open_in (One (vertex_of v) (vertex_of w)) (Some (vertex_of w)) degrees sides ends r.labels r.blocks a b (length es) rings) (extend es new left.blocks w left.marks) false
    unfolding opened_in
    split_extend_stands one =
        goes_on (Also v Nobody) c left one_cut w v ow ov (λ i. vw (sym i)) one (λ t. omega arith) (omega (arith, q.blocks_few, few_blocks)) (q.small small)
        (q.same w (λ i. vw (sym i)) (singular_off (proper r g) sh v w two nw)) (sym q.long)

  -- ---- both are regular
  module _ (ca : degree es a ≡ 2) (cb : degree es b ≡ 2) where
    abbrev d : Changed
    d = split_ends_in Both degrees sides ends r.labels r.blocks a b (length es) rings

    abbrev left_both : Labelling
    left_both = split_two es r.blocks a b m

    d_is : d ≡ split_both_in degrees sides ends r.labels r.blocks a b (length es)
    d_is = both_as (proper r g) sh rings warns r.labels r.blocks a b ca cb

    s : SplitTwo es r.labels a b d left_both
    s =
        rw d_is
        (splits_both (proper r g) sh whole r.blocks a b ca cb df (omega (arith, few_blocks)) (omega (arith, few_blocks, room r g))
        (omega (arith, labels_long r g)))

    d_open : d.ring ≡ false
    unfolding split_both_in
    d_open = rw d_is refl

    both_cut : Cut es e r.labels (Also b (Also a Nobody)) d left_both
    both_cut = record {
      as_split = s.holds;
      only = only;
      all = λ v o t. among v (two_ends e a b v oa ob df o);
      blocks_are = s.blocks_are;
      counts = s.counts;
      is_open = d_open;
    }
      where
        only : (v : ℕ) → (v ≡ b) ⊎ ((v ≡ a) ⊎ ⊥) → (ends_at v e ≡ 1) × (degree es v ≡ 2)
        only v (inl i) = rw i (ob, cb)
        only v (inr (inl i)) = rw i (oa, ca)
        only v (inr (inr t)) = absurd t

        among : (v : ℕ) → (v ≡ a) ⊎ (v ≡ b) → (v ≡ b) ⊎ ((v ≡ a) ⊎ ⊥)
        among v (inl i) = inr (inl i)
        among v (inr i) = inl i

    -- two splits stand
    pub both_stands : Stands new r.labels (open_in Both None degrees sides ends r.labels r.blocks a b (length es) rings) left_both false
    unfolding opened_in
    both_stands = opens (Also b (Also a Nobody)) d left_both both_cut (λ q. omega arith) (λ q. omega arith)

  -- ---- both are leaves
  module _ (leaf-a : degree es a ≡ 1) (leaf-b : degree es b ≡ 1) where
    -- what the merge of two chains stands on
    pub ground : Ground es e degrees sides ends r.labels m
    ground = record {
      proper = proper r g;
      differ = df;
      room = room r g;
      below = new_below r g e fa fb;
      shows = sh;
      labels_are = refl;
      sides_long = sides_long r;
      lows_long = lows_long r g;
      small = λ v. omega (arith, labels_small r g v);
    }

    -- a leaf wears no label
    pub bare : (v : ℕ) → degree es v ≡ 1 → get_or r.labels v 0 ≡ 0
    bare v one = no_label r g v (λ q. omega arith)

    merged_as : (l : Labelling) (t : Bool) → ChangedAs new r.labels (merge_in degrees sides ends r.labels r.blocks a b (length es) (length es)) l
        → (merge_in degrees sides ends r.labels r.blocks a b (length es) (length es)).ring ≡ t
        → Stands new r.labels (merged_in degrees sides ends r.labels r.blocks a b (length es)) l t
    unfolding merged_in
    merged_as l t k i = record { long = raised_long; degrees_are = raised_are; holds = k.holds; counts = k.counts; ring_is = i }

    -- a merge of two chains stands
    pub merge_stands : closes_ring es a b ≡ false → Stands new r.labels (merged_in degrees sides ends r.labels r.blocks a b (length es)) (merge es r.blocks a b m) false
    merge_stands t =
        merged_as (merge es r.blocks a b m) false
        (merges ground a b leaf-a leaf-b oa ob df r.blocks t (omega (arith, few_blocks)) (bare a leaf-a) (bare b leaf-b))
        (merging_open ground a b leaf-a leaf-b oa ob df r.blocks t)

    -- a closing stands, where it is one chain
    pub close_stands : closes_ring es a b ≡ true → Stands new r.labels (merged_in degrees sides ends r.labels r.blocks a b (length es)) (close es r.blocks a b m) true
    close_stands t =
        merged_as (close es r.blocks a b m) true
        (closes ground a b leaf-a leaf-b oa ob df r.blocks t (omega (arith, few_blocks)) (bare a leaf-a) (bare b leaf-b))
        (merging_closes ground a b leaf-a leaf-b oa ob df r.blocks t)
