-- Marks that agree but for some vertices, which are bare: what splits and taps leave, and how many labels they change at most.
use mathlib.Core.Path.{◌≡◌, refl, sym, ◌∙◌}
use mathlib.Core.Logic.{◌⊎◌, inl, inr}
use Prim.Native.Nat.{ℕ, suc, ◌+◌, ◌≤◌, ◌<◌}
use native.Mathlib.Omega.{arith}
use native.Mathlib.Decide.{ℕ_discrete, dec_lt}
use mathlib.Core.Bool.{Bool, true, false}
use mathlib.Core.List.{List, [], ◌∷◌}
use lib.ListN.{length, get_or, set, length-set, get_or-eq_default}
use lib.Seq.{get_or-set_other}
use Rattle.model.specs.Graph.{Pass}
use Rattle.model.specs.Labels.{Marks, label_path, mark, relabel_count, split}
use Rattle.model.proofs.Walks.Places.{here, later, Off}
use Rattle.model.proofs.Labels.Following.{following, following_cons, following_long, ith_label, low_of, set_at}
use Rattle.theory.proofs.Labels.Relabellings.{moved_new, relabel_count_path, relabel_count_set}
use Rattle.theory.proofs.Labels.Splits.{set_off, set_zero}
use Rattle.theory.proofs.Labels.Taps.{relaid}

-- one of some vertices
abbrev pub Among : List ℕ → ℕ → Type 0
Among [] v = ⊥
Among (x ∷ xs) v = (v ≡ x) ⊎ Among xs v

-- n agrees with m but for the vertices xs, which are bare
pub record Except (xs : List ℕ) (m n : Marks) : Type 0 where
  pub off : (v : ℕ) → Among xs v → get_or n.labels v 0 ≡ 0
  pub label_same : (v : ℕ) → (Among xs v → ⊥) → get_or n.labels v 0 ≡ get_or m.labels v 0
  pub low_same : (v : ℕ) → (Among xs v → ⊥) → get_or n.lows v 0 ≡ get_or m.lows v 0
  pub labels_long : length n.labels ≡ length m.labels
  pub lows_long : length n.lows ≡ length m.lows

set_agree : (xs ys : List ℕ) (w v a : ℕ) → length xs ≡ length ys → get_or xs v 0 ≡ get_or ys v 0 → get_or (set xs w a) v 0 ≡ get_or (set ys w a) v 0
set_agree xs ys w v a l e = go (ℕ_discrete v w) (dec_lt v (length xs))
  where
    go : Dec (v ≡ w) → Dec (v < length xs) → get_or (set xs w a) v 0 ≡ get_or (set ys w a) v 0
    go (no n) d = get_or-set_other xs w v a 0 n ∙ e ∙ sym (get_or-set_other ys w v a 0 n)
    go (yes n) (yes i) = set_at xs w v a n i ∙ sym (set_at ys w v a n (omega arith))
    go (yes n) (no i) = get_or-eq_default (set xs w a) 0 (omega (arith, length-set xs w a)) ∙ sym (get_or-eq_default (set ys w a) 0 (omega (arith, length-set ys w a)))

record Agree (v : ℕ) (m n : Marks) : Type 0 where
  labels_agree : get_or n.labels v 0 ≡ get_or m.labels v 0
  lows_agree : get_or n.lows v 0 ≡ get_or m.lows v 0
  labels_length : length n.labels ≡ length m.labels
  lows_length : length n.lows ≡ length m.lows

mark_agree : (w label low v : ℕ) (m n : Marks) → Agree v m n → Agree v (mark w label low m) (mark w label low n)
unfolding mark
mark_agree w label low v m n g = record {
  labels_agree = set_agree n.labels m.labels w v label g.labels_length g.labels_agree;
  lows_agree = set_agree n.lows m.lows w v low g.lows_length g.lows_agree;
  labels_length = length-set n.labels w label ∙ g.labels_length ∙ sym (length-set m.labels w label);
  lows_length = length-set n.lows w low ∙ g.lows_length ∙ sym (length-set m.lows w low);
}

following_agree : (up : Bool) (t : ℕ) (path : List Pass) (v : ℕ) (m n : Marks) → Agree v m n → Agree v (following up t path m) (following up t path n)
unfolding following label_path
following_agree true t [] v m n g = g
following_agree false t [] v m n g = g
following_agree up t (s ∷ ss) v m n g =
    rw (following_cons up t s ss m, following_cons up t s ss n) (following_agree up (ith_label up t 0) ss v _ _ (mark_agree s.at (ith_label up t 0) (low_of up s) v m n g))

-- a vertex off the path wears what it wore
pub following_off : (up : Bool) (t : ℕ) (path : List Pass) (v : ℕ) (m : Marks) → Off path v → get_or (following up t path m).labels v 0 ≡ get_or m.labels v 0
unfolding following label_path mark
following_off true t [] v m o = refl
following_off false t [] v m o = refl
following_off up t (s ∷ ss) v m o =
    rw (following_cons up t s ss m)
    (following_off up (ith_label up t 0) ss v _ (λ i z j. o (suc i) z (later j)) ∙ get_or-set_other m.labels s.at v (ith_label up t 0) 0 (λ q. o 0 s here (sym q)))

-- marks agree with themselves
pub except_none : (m : Marks) → Except [] m m
except_none m = record { off = λ v a. absurd a; label_same = λ v n. refl; low_same = λ v n. refl; labels_long = refl; lows_long = refl }

-- a split bares one vertex more
pub except_split : {xs : List ℕ} {m n : Marks} (x : ℕ) → Except xs m n → Except (x ∷ xs) m (split x n)
unfolding split mark
except_split {xs} {m} {n} x e = record {
  off = off';
  label_same = λ v k. get_or-set_other n.labels x v 0 0 (λ q. k (inl q)) ∙ e.label_same v (λ a. k (inr a));
  low_same = λ v k. get_or-set_other n.lows x v 0 0 (λ q. k (inl q)) ∙ e.low_same v (λ a. k (inr a));
  labels_long = length-set n.labels x 0 ∙ e.labels_long;
  lows_long = length-set n.lows x 0 ∙ e.lows_long;
}
  where
    off' : (v : ℕ) → (v ≡ x) ⊎ Among xs v → get_or (set n.labels x 0) v 0 ≡ 0
    off' v (inl q) = rw q (set_off n.labels x)
    off' v (inr a) = set_zero n.labels x v (e.off v a)

-- a tap does so too, once its path is labelled
pub except_tap : {xs : List ℕ} {m n : Marks} (t x q : ℕ) (path : List Pass) → Except xs m n → ((v : ℕ) → Among xs v → Off path v) → Except (x ∷ xs) (relaid t x q path m) (split x (following true t path n))
unfolding relaid split mark
except_tap {xs} {m} {n} t x q path e offs = record {
  off = off';
  label_same = λ v k. get_or-set_other fn.labels x v 0 0 (λ i. k (inl i)) ∙ (agree v k).labels_agree ∙ sym (get_or-set_other fm.labels x v (t + suc (length path)) 0 (λ i. k (inl i)));
  low_same = λ v k. get_or-set_other fn.lows x v 0 0 (λ i. k (inl i)) ∙ (agree v k).lows_agree ∙ sym (get_or-set_other fm.lows x v q 0 (λ i. k (inl i)));
  labels_long = length-set fn.labels x 0 ∙ (following_long true t path n).labels_long ∙ e.labels_long ∙ sym (following_long true t path m).labels_long ∙ sym (length-set fm.labels x (t + suc (length path)));
  lows_long = length-set fn.lows x 0 ∙ (following_long true t path n).lows_long ∙ e.lows_long ∙ sym (following_long true t path m).lows_long ∙ sym (length-set fm.lows x q);
}
  where
    fn : Marks
    fn = following true t path n

    fm : Marks
    fm = following true t path m

    agree : (v : ℕ) → ((v ≡ x) ⊎ Among xs v → ⊥) → Agree v fm fn
    agree v k = following_agree true t path v m n (record {
      labels_agree = e.label_same v (λ a. k (inr a));
      lows_agree = e.low_same v (λ a. k (inr a));
      labels_length = e.labels_long;
      lows_length = e.lows_long;
    })

    off' : (v : ℕ) → (v ≡ x) ⊎ Among xs v → get_or (set fn.labels x 0) v 0 ≡ 0
    off' v (inl i) = rw i (set_off fn.labels x)
    off' v (inr a) = set_zero fn.labels x v (following_off true t path v n (offs v a) ∙ e.off v a)

-- ---- how many labels are changed

-- a split changes no label to another
pub split_moves : (ts : List ℕ) (x : ℕ) (m : Marks) → relabel_count ts (split x m).labels ≤ relabel_count ts m.labels
unfolding split mark
split_moves ts x m = let k = relabel_count_set ts m.labels x 0 0 (omega (arith, moved_new (get_or ts x 0))) in omega (arith, k)

-- a tap changes at most those of its path
pub tap_moves : (ts : List ℕ) (t x : ℕ) (path : List Pass) (m : Marks) → relabel_count ts (split x (following true t path m)).labels ≤ relabel_count ts m.labels + length path
tap_moves ts t x path m = omega (arith, split_moves ts x (following true t path m), relabel_count_path ts true t path m)
