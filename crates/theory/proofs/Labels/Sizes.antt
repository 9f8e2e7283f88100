-- The tables of the marks keep their sizes, in every case of one more edge.
use Rattle.std.specs.Prelude.{if◌then◌else◌}
use mathlib.Core.Path.{refl, ◌∙◌}
use Prim.Native.Nat.{ℕ}
use mathlib.Core.Bool.{Bool, true, false}
use mathlib.Core.List.{List, [], ◌∷◌}
use lib.ListN.{length-set}
use lib.Dec.{leb}
use Rattle.model.specs.Graph.{Edge, Pass, degree}
use Rattle.model.specs.Cases.{Class, isolated, leaf, regular, branch, case_at, case_of, class_of, closes, closes_ring, opposite, vertex_at}
use Rattle.model.specs.Labels.{Labelling, Marks, attach, close, close_over, extend, inner_count, inwards, label_case, label_edge, label_path, mark, merge, next, on_one_ring, vertex_on_ring, split, split_or_tap, split_two, tap}
use Rattle.model.proofs.Basics.Booleans.{if_either}
use Rattle.model.proofs.Labels.Following.{Long}

long_same : (m : Marks) → Long m m
long_same m = record { labels_long = refl; lows_long = refl }

long_then : {m k l : Marks} → Long m k → Long k l → Long m l
long_then a b = record { labels_long = b.labels_long ∙ a.labels_long; lows_long = b.lows_long ∙ a.lows_long }

mark_long : (v label low : ℕ) (m : Marks) → Long m (mark v label low m)
unfolding mark
mark_long v label low m = record { labels_long = length-set m.labels v label; lows_long = length-set m.lows v low }

path_long : (up : Bool) (label : ℕ) (path : List Pass) (m : Marks) → Long m (label_path up label path m)
unfolding label_path
path_long up label [] m = long_same m
path_long up label (s ∷ ss) m = long_then (mark_long s.at label _ m) (path_long up (next up label) ss _)

attach_long : (blocks d : ℕ) (kept path : List Pass) (m : Marks) → Long m (attach blocks d kept path m).marks
unfolding attach
attach_long blocks d [] path m = path_long true _ path m
attach_long blocks d (u ∷ us) path m = path_long _ _ path m

split_long : (v : ℕ) (m : Marks) → Long m (split v m)
unfolding split
split_long v m = mark_long v 0 0 m

split_or_tap_long : (es : List Edge) (blocks v : ℕ) (m : Marks) → Long m (split_or_tap es blocks v m).marks
unfolding split_or_tap tap
split_or_tap_long es blocks v m =
    if_either (λ (l : Labelling). Long m l.marks) (vertex_on_ring es v) _ _ (long_then (path_long true _ _ m) (split_long v _)) (split_long v m)

split_two_long : (es : List Edge) (blocks v w : ℕ) (m : Marks) → Long m (split_two es blocks v w m).marks
unfolding split_two
split_two_long es blocks v w m =
    if_either (λ (l : Labelling). Long m l.marks) (on_one_ring es v w) _ _
    (long_then (split_or_tap_long es blocks v m) (split_long w _)) (long_then (split_or_tap_long es blocks v m) (split_or_tap_long es _ w _))

extend_long : (es new : List Edge) (blocks x : ℕ) (m : Marks) → Long m (extend es new blocks x m).marks
unfolding extend
extend_long es new blocks x m = attach_long blocks _ _ _ m

merge_long : (es : List Edge) (blocks a b : ℕ) (m : Marks) → Long m (merge es blocks a b m).marks
unfolding merge
merge_long es blocks a b m =
    if_either (λ (l : Labelling). Long m l.marks) (leb (inner_count es b) (inner_count es a)) _ _ (attach_long blocks _ _ _ m) (attach_long blocks _ _ _ m)

close_over_long : (from-a from-b : List Pass) (es : List Edge) (blocks a b : ℕ) (m : Marks) → Long m (close_over from-a from-b es blocks a b m).marks
unfolding close_over
close_over_long [] from-b es blocks a b m = path_long true _ _ m
close_over_long (u ∷ us) from-b es blocks a b m = long_then (attach_long blocks _ (u ∷ us) _ m) (attach_long _ _ from-b _ _)

close_long : (es : List Edge) (e : Edge) (blocks : ℕ) (m : Marks) → Long m (label_case closes es e blocks m).marks
unfolding label_case close
close_long es e blocks m = close_over_long (inwards es e.first) (inwards es e.second) es blocks e.first e.second m

by_class : (c k : Class) (es : List Edge) (e : Edge) (blocks : ℕ) (m : Marks) → Long m (label_case (case_of c k) es e blocks m).marks
unfolding label_case case_of vertex_at opposite
by_class isolated isolated es e blocks m = long_same m
by_class isolated branch es e blocks m = long_same m
by_class branch isolated es e blocks m = long_same m
by_class branch branch es e blocks m = long_same m
by_class leaf isolated es e blocks m = extend_long es _ blocks e.first m
by_class leaf branch es e blocks m = extend_long es _ blocks e.first m
by_class isolated leaf es e blocks m = extend_long es _ blocks e.second m
by_class branch leaf es e blocks m = extend_long es _ blocks e.second m
by_class leaf leaf es e blocks m = merge_long es blocks e.first e.second m
by_class leaf regular es e blocks m = long_then (split_or_tap_long es blocks e.second m) (extend_long es _ _ e.first _)
by_class regular leaf es e blocks m = long_then (split_or_tap_long es blocks e.first m) (extend_long es _ _ e.second _)
by_class regular isolated es e blocks m = split_or_tap_long es blocks e.first m
by_class regular branch es e blocks m = split_or_tap_long es blocks e.first m
by_class isolated regular es e blocks m = split_or_tap_long es blocks e.second m
by_class branch regular es e blocks m = split_or_tap_long es blocks e.second m
by_class regular regular es e blocks m = split_two_long es blocks e.first e.second m

-- one more edge leaves the tables' sizes
pub edge_long : (es : List Edge) (e : Edge) (blocks : ℕ) (m : Marks) → Long m (label_edge es e blocks m).marks
unfolding label_edge case_at
edge_long es e blocks m = go (closes_ring es e.first e.second)
  where
    go : (b : Bool) → Long m (label_case (if b then closes else case_of (class_of (degree es e.first)) (class_of (degree es e.second))) es e blocks m).marks
    go true = close_long es e blocks m
    go false = by_class (class_of (degree es e.first)) (class_of (degree es e.second)) es e blocks m
