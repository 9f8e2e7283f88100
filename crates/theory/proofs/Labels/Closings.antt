-- The case of an edge is the closing exactly if the edge closes a ring.
use Rattle.std.specs.Prelude.{if◌then◌else◌}
use mathlib.Core.Path.{◌≡◌, refl, ap}
use mathlib.Core.Bool.{Bool, true, false}
use mathlib.Core.List.{List}
use Rattle.model.specs.Graph.{Edge, degree}
use Rattle.model.specs.Cases.{Case, Class, branch, case_at, case_of, class_of, closes, closes_ring, extends, isolated, leaf, merges, new_chain, regular, split_both, split_extends, split_new}
use Rattle.model.proofs.Basics.Booleans.{not_both}

-- an edge that closes a ring is in the case of the closing
pub closing_case : (es : List Edge) (e : Edge) → closes_ring es e.first e.second ≡ true → case_at es e ≡ closes
unfolding case_at
closing_case es e t = rw t

is_closing : Case → Bool
is_closing new_chain = false
is_closing (extends x) = false
is_closing merges = false
is_closing closes = true
is_closing (split_extends x) = false
is_closing (split_new x) = false
is_closing split_both = false

not_closing : (c k : Class) → is_closing (case_of c k) ≡ false
unfolding is_closing case_of
not_closing isolated isolated = refl
not_closing isolated leaf = refl
not_closing isolated regular = refl
not_closing isolated branch = refl
not_closing leaf isolated = refl
not_closing leaf leaf = refl
not_closing leaf regular = refl
not_closing leaf branch = refl
not_closing regular isolated = refl
not_closing regular leaf = refl
not_closing regular regular = refl
not_closing regular branch = refl
not_closing branch isolated = refl
not_closing branch leaf = refl
not_closing branch regular = refl
not_closing branch branch = refl

-- an edge in the case of the closing closes a ring
pub case_closing : (es : List Edge) (e : Edge) → case_at es e ≡ closes → closes_ring es e.first e.second ≡ true
unfolding case_at is_closing
case_closing es e = go (closes_ring es e.first e.second)
  where
    go : (t : Bool) → (if t then closes else case_of (class_of (degree es e.first)) (class_of (degree es e.second))) ≡ closes → t ≡ true
    go true q = refl
    go false q = absurd (not_both _ (ap is_closing q) (not_closing (class_of (degree es e.first)) (class_of (degree es e.second))))
