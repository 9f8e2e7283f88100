-- The heads of eight houses, and their counts of removals, as lists.
use mathlib.Core.Path.{◌≡◌, refl, sym, ap, ◌∙◌}
use mathlib.Core.Logic.{◌≢◌}
use Prim.Native.Nat.{ℕ, zero, suc, ◌<◌}
use native.Mathlib.Omega.{arith}
use mathlib.Core.List.{List, [], ◌∷◌}
use lib.ListN.{length, get_or, set, length-set}
use lib.Seq.{get_or-set_same, get_or-set_other}
use Rattle.model.specs.Tables as T
use Rattle.counters.specs.Answers.{as_counts}
use Rattle.counters.specs.declared.counts.Counts.{Counts}
use Rattle.nursery.specs.Licence.{houses}
use Rattle.heads.specs.declared.heads.Heads.{Heads}
use Rattle.heads.specs.Meaning.{as_heads, as_removals, head_at}

-- the list has the head of each house at its number
pub head_at_lem : (heads : Heads) (h : ℕ) → h < houses → head_at heads.counts h ≡ get_or (as_heads heads) h T.no_counts
unfolding as_heads
head_at_lem heads zero l = refl
head_at_lem heads (suc zero) l = refl
head_at_lem heads (suc (suc zero)) l = refl
head_at_lem heads (suc (suc (suc zero))) l = refl
head_at_lem heads (suc (suc (suc (suc zero)))) l = refl
head_at_lem heads (suc (suc (suc (suc (suc zero))))) l = refl
head_at_lem heads (suc (suc (suc (suc (suc (suc zero)))))) l = refl
head_at_lem heads (suc (suc (suc (suc (suc (suc (suc zero))))))) l = refl
head_at_lem heads (suc (suc (suc (suc (suc (suc (suc (suc h)))))))) l = absurd (omega arith)

-- and its count of removals
pub removals_at_lem : (heads : Heads) (h : ℕ) → h < houses → get_or heads.removals h 0 ≡ get_or (as_removals heads) h 0
unfolding as_removals
removals_at_lem heads zero l = refl
removals_at_lem heads (suc zero) l = refl
removals_at_lem heads (suc (suc zero)) l = refl
removals_at_lem heads (suc (suc (suc zero))) l = refl
removals_at_lem heads (suc (suc (suc (suc zero)))) l = refl
removals_at_lem heads (suc (suc (suc (suc (suc zero))))) l = refl
removals_at_lem heads (suc (suc (suc (suc (suc (suc zero)))))) l = refl
removals_at_lem heads (suc (suc (suc (suc (suc (suc (suc zero))))))) l = refl
removals_at_lem heads (suc (suc (suc (suc (suc (suc (suc (suc h)))))))) l = absurd (omega arith)

-- a list of eight is its elements
pub eight_are : {A : Type 0} (d : A) (xs : List A) → length xs ≡ houses
    → get_or xs 0 d ∷ get_or xs 1 d ∷ get_or xs 2 d ∷ get_or xs 3 d ∷ get_or xs 4 d ∷ get_or xs 5 d ∷ get_or xs 6 d ∷ get_or xs 7 d ∷ [] ≡ xs
eight_are d [] e = absurd (omega arith)
eight_are d (a ∷ []) e = absurd (omega arith)
eight_are d (a ∷ b ∷ []) e = absurd (omega arith)
eight_are d (a ∷ b ∷ c ∷ []) e = absurd (omega arith)
eight_are d (a ∷ b ∷ c ∷ f ∷ []) e = absurd (omega arith)
eight_are d (a ∷ b ∷ c ∷ f ∷ g ∷ []) e = absurd (omega arith)
eight_are d (a ∷ b ∷ c ∷ f ∷ g ∷ h ∷ []) e = absurd (omega arith)
eight_are d (a ∷ b ∷ c ∷ f ∷ g ∷ h ∷ i ∷ []) e = absurd (omega arith)
eight_are d (a ∷ b ∷ c ∷ f ∷ g ∷ h ∷ i ∷ j ∷ []) e = refl
eight_are d (a ∷ b ∷ c ∷ f ∷ g ∷ h ∷ i ∷ j ∷ k ∷ xs) e = absurd (omega arith)

-- the head that is put, and any other
pub head_put : (heads : Heads) (i h : ℕ) (own : T.Counts) → i < houses → i ≡ h → own ≡ get_or (set (as_heads heads) h own) i T.no_counts
unfolding as_heads
head_put heads i h own l e = sym (ap (λ (k : ℕ). get_or (set (as_heads heads) k own) i T.no_counts) (sym e) ∙ get_or-set_same (as_heads heads) i own T.no_counts l)

pub head_other : (heads : Heads) (i h : ℕ) (own c : T.Counts) → i ≢ h → c ≡ get_or (as_heads heads) i T.no_counts → c ≡ get_or (set (as_heads heads) h own) i T.no_counts
head_other heads i h own c d e = e ∙ sym (get_or-set_other (as_heads heads) h i own T.no_counts d)

pub eight_heads : (heads : Heads) → length (as_heads heads) ≡ houses
unfolding as_heads
eight_heads heads = refl

module _ {A : Type 0} (d : A) (xs : List A) (l : length xs ≡ houses) where
  -- eight elements that are those of the list
  pub list_of_lem : (a b c e f g h i : A) → a ≡ get_or xs 0 d → b ≡ get_or xs 1 d → c ≡ get_or xs 2 d → e ≡ get_or xs 3 d → f ≡ get_or xs 4 d → g ≡ get_or xs 5 d
      → h ≡ get_or xs 6 d → i ≡ get_or xs 7 d → a ∷ b ∷ c ∷ e ∷ f ∷ g ∷ h ∷ i ∷ [] ≡ xs
  list_of_lem a b c e f g h i p q r s t u v w = rw (p, q, r, s, t, u, v, w) (eight_are d xs l)

this_list : (a b c e f g i j : Counts) (ns : List ℕ)
    → as_heads (record { counts = a ∷ b ∷ c ∷ e ∷ f ∷ g ∷ i ∷ j ∷ []; removals = ns }) ≡ as_counts a ∷ as_counts b ∷ as_counts c ∷ as_counts e ∷ as_counts f ∷ as_counts g ∷ as_counts i ∷ as_counts j ∷ []
unfolding as_heads
this_list a b c e f g i j ns = refl

-- the heads of an array of eight that are those of a list with one put in
pub heads_put : (heads : Heads) (h : ℕ) (own : T.Counts) (a b c e f g i j : Counts) (ns : List ℕ)
    → as_counts a ≡ get_or (set (as_heads heads) h own) 0 T.no_counts → as_counts b ≡ get_or (set (as_heads heads) h own) 1 T.no_counts → as_counts c ≡ get_or (set (as_heads heads) h own) 2 T.no_counts
    → as_counts e ≡ get_or (set (as_heads heads) h own) 3 T.no_counts → as_counts f ≡ get_or (set (as_heads heads) h own) 4 T.no_counts → as_counts g ≡ get_or (set (as_heads heads) h own) 5 T.no_counts
    → as_counts i ≡ get_or (set (as_heads heads) h own) 6 T.no_counts → as_counts j ≡ get_or (set (as_heads heads) h own) 7 T.no_counts
    → as_heads (record { counts = a ∷ b ∷ c ∷ e ∷ f ∷ g ∷ i ∷ j ∷ []; removals = ns }) ≡ set (as_heads heads) h own
heads_put heads h own a b c e f g i j ns p0 p1 p2 p3 p4 p5 p6 p7 =
    this_list a b c e f g i j ns ∙ list_of_lem T.no_counts (set (as_heads heads) h own) (length-set (as_heads heads) h own ∙ eight_heads heads) _ _ _ _ _ _ _ _ p0 p1 p2 p3 p4 p5 p6 p7

-- ---- the counts of removals

-- the count that is put, and any other
pub removals_put : (heads : Heads) (i h count : ℕ) → i < houses → i ≡ h → count ≡ get_or (set (as_removals heads) h count) i 0
unfolding as_removals
removals_put heads i h count l e = sym (ap (λ (k : ℕ). get_or (set (as_removals heads) k count) i 0) (sym e) ∙ get_or-set_same (as_removals heads) i count 0 l)

pub removals_other : (heads : Heads) (i h count x : ℕ) → i ≢ h → x ≡ get_or (as_removals heads) i 0 → x ≡ get_or (set (as_removals heads) h count) i 0
removals_other heads i h count x d e = e ∙ sym (get_or-set_other (as_removals heads) h i count 0 d)

eight_removals : (heads : Heads) → length (as_removals heads) ≡ houses
unfolding as_removals
eight_removals heads = refl

these_removals : (cs : List Counts) (a b c e f g i j : ℕ)
    → as_removals (record { counts = cs; removals = a ∷ b ∷ c ∷ e ∷ f ∷ g ∷ i ∷ j ∷ [] }) ≡ a ∷ b ∷ c ∷ e ∷ f ∷ g ∷ i ∷ j ∷ []
unfolding as_removals
these_removals cs a b c e f g i j = refl

-- the counts of an array of eight that are those of a list with one put in; the heads are those of their array
pub counts_put : (heads : Heads) (h count : ℕ) (a b c e f g i j : ℕ)
    → a ≡ get_or (set (as_removals heads) h count) 0 0 → b ≡ get_or (set (as_removals heads) h count) 1 0 → c ≡ get_or (set (as_removals heads) h count) 2 0
    → e ≡ get_or (set (as_removals heads) h count) 3 0 → f ≡ get_or (set (as_removals heads) h count) 4 0 → g ≡ get_or (set (as_removals heads) h count) 5 0
    → i ≡ get_or (set (as_removals heads) h count) 6 0 → j ≡ get_or (set (as_removals heads) h count) 7 0
    → as_removals (record { counts = heads.counts; removals = a ∷ b ∷ c ∷ e ∷ f ∷ g ∷ i ∷ j ∷ [] }) ≡ set (as_removals heads) h count
counts_put heads h count a b c e f g i j p0 p1 p2 p3 p4 p5 p6 p7 =
    these_removals heads.counts a b c e f g i j ∙ list_of_lem 0 (set (as_removals heads) h count) (length-set (as_removals heads) h count ∙ eight_removals heads) _ _ _ _ _ _ _ _ p0 p1 p2 p3 p4 p5 p6 p7
