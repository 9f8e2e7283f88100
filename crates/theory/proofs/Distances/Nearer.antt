-- A distance is at most 100,000 for each vertex that is nearer to the goal, so at most 100,000 times the number of vertices.
use mathlib.Core.Path.{◌≡◌, refl, subst, sym}
use Prim.Native.Nat.{ℕ, zero, suc, ◌+◌, ◌*◌, ◌≤◌, ◌<◌}
use native.Mathlib.Omega.{arith}
use native.Mathlib.Nat.{not-suc-le-zero}
use native.Mathlib.Decide.{ℕ_discrete, dec_lt}
use mathlib.Core.List.{List}
use lib.ListN.{length}
use lib.Dec.{ltb}
use Rattle.model.specs.Basics.{max_length}
use Rattle.model.specs.Graph.{Edge, edge_at, length_at}
use Rattle.model.specs.Distance.{Distance, IsDistance, Joins, Least, Way, along, back, distance, forth, here, joined, not_joined}
use Rattle.model.proofs.Distances.Distance.{is_distance, only_distance}
use Rattle.model.specs.Notions.{Lawful}
use Rattle.model.proofs.Walks.Degree.{AllLawful}
use Rattle.model.proofs.Basics.Total.{total, total_le, total_const}
use Rattle.model.proofs.Basics.Booleans.{one_most}
use Rattle.model.proofs.Basics.Counting.{below1, below1_lt, below1_ge}

-- 1 where the distance is below x
near : Distance → ℕ → ℕ
near (joined l) x = below1 l x
near not_joined x = 0

near_one : (a : Distance) (x : ℕ) → near a x ≤ 1
unfolding near below1
near_one (joined l) x = one_most (ltb l x)
near_one not_joined x = omega arith

near_mono : (a : Distance) (x y : ℕ) → x ≤ y → near a x ≤ near a y
unfolding near
near_mono (joined l) x y h = go (dec_lt l x)
  where
    go : Dec (l < x) → below1 l x ≤ below1 l y
    go (yes i) = omega (arith, below1_lt l x i, below1_lt l y (omega arith))
    go (no i) = omega (arith, below1_ge l x (omega arith))
near_mono not_joined x y h = omega arith

module _ (es : List Edge) (goal : ℕ) where
  -- how many of the vertices below n are nearer than x
  nearer : ℕ → ℕ → ℕ
  nearer n x = total n (λ v. near (distance es v goal) x)

  nearer_le : (n x : ℕ) → nearer n x ≤ n
  unfolding nearer
  nearer_le n x = omega (arith, total_le n (λ v. near (distance es v goal) x) (λ v. 1) (λ v l. near_one (distance es v goal) x), total_const n 1)

  nearer_mono : (n x y : ℕ) → x ≤ y → nearer n x ≤ nearer n y
  unfolding nearer
  nearer_mono n x y h = total_le n (λ v. near (distance es v goal) x) (λ v. near (distance es v goal) y) (λ v l. near_mono (distance es v goal) x y h)

  nearer_more : (n x y v l : ℕ) → v < n → distance es v goal ≡ joined l → x ≤ l → l < y → suc (nearer n x) ≤ nearer n y
  unfolding nearer near total
  nearer_more zero x y v l h e a b = absurd (not-suc-le-zero h)
  nearer_more (suc n) x y v l h e a b = go (ℕ_discrete v n) (λ i. nearer_more n x y v l i e a b)
    where
      go : Dec (v ≡ n) → (v < n → suc (nearer n x) ≤ nearer n y)
          → suc (nearer n x + near (distance es n goal) x) ≤ nearer n y + near (distance es n goal) y
      go (yes z) ih =
          let e' : distance es n goal ≡ joined l = subst (λ (w : ℕ). distance es w goal ≡ joined l) z e in
          rw e' (omega (arith, below1_ge l x a, below1_lt l y b, nearer_mono n x y (omega arith)))
      go (no z) ih = omega (arith, ih (omega arith), near_mono (distance es n goal) x y (omega arith))

  module _ (n : ℕ) (f : AllLawful n es) where
    far_landed : (d v w : ℕ) → d < length es → Joins (edge_at es d) v w → w < n
    far_landed d v w i (forth a b) = subst (λ (z : ℕ). z < n) b (f d i).second_landed
    far_landed d v w i (back a b) = subst (λ (z : ℕ). z < n) b (f d i).first_landed

    -- what is left of a least way is least, and where it begins is nearer than where the whole way does
    least_way : {v w l : ℕ} → w ≡ goal → Way es v w l → ((k : ℕ) → Way es v goal k → l ≤ k) → l ≤ max_length * nearer n l
    unfolding length_at
    least_way q here low = omega arith
    least_way q (along {v = v} {w = w} {l = l} d i j u) low =
        let least : (k : ℕ) → Way es w goal k → l ≤ k = λ k t. omega (arith, low (length_at es d + k) (along d i j t)) in
        let e : distance es w goal ≡ joined l =
        sym (only_distance es w goal (joined l) (record { holds = subst (λ (z : ℕ). Way es w z l) q u; least = least })) in
        let fd : Lawful n (edge_at es d) = f d i in
        let more = nearer_more n l (length_at es d + l) w l (far_landed d v w i j) e (omega arith) (omega (arith, fd.some_length)) in
        omega (arith, least_way q u least, more, fd.most_length)

    -- a distance is at most 100,000 times the number of vertices
    pub distance_most : (v l : ℕ) → distance es v goal ≡ joined l → l ≤ max_length * n
    distance_most v l e =
        let p : Least (λ k. Way es v goal k) l = subst (λ (a : Distance). IsDistance (λ k. Way es v goal k) a) e (is_distance es v goal) in
        omega (arith, least_way refl p.holds p.least, nearer_le n l)
