-- Two regular vertices with the same label are the same vertex, and no label of a regular vertex is 0.
use mathlib.Core.Path.{◌≡◌, sym, ap, ◌∙◌, subst}
use mathlib.Core.Logic.{◌≢◌, ◌⊎◌, inl, inr}
use Prim.Native.Nat.{ℕ, zero, suc, ◌+◌, ◌-◌, ◌*◌, ◌≤◌, ◌<◌}
use native.Mathlib.Omega.{arith}
use native.Mathlib.Decide.{ℕ_discrete, dec_lt}
use mathlib.Core.Bool.{true, false}
use mathlib.Core.List.{List}
use lib.ListN.{length}
use Rattle.model.specs.Graph.{Edge, degree, same}
use Rattle.model.specs.Labels.{Marks, base}
use Rattle.model.proofs.Basics.Booleans.{true_or_false}
use Rattle.model.proofs.Walks.Degree.{Proper}
use Rattle.model.proofs.Walks.Turn.{At, TwoEdges, two_edges}
use Rattle.theory.proofs.Groups.Shape.{Shape, size, size_most, place_fits, successive_one}
use Rattle.model.proofs.Labels.Following.{label_at}
use Rattle.theory.proofs.Groups.Origins.{Stand, gap, offset, fits_near, fits_same}
use Rattle.theory.proofs.Groups.Ghosts.{Ghosts}
use Rattle.theory.proofs.Groups.Laying.{base_least}
use Rattle.model.proofs.Basics.Counting.{same_eq, same_ne}
use Rattle.model.proofs.Basics.Total.{total}

-- two groups are together at most all edges
one_of : (x g c : ℕ) → g ≢ c → same x g + same x c ≤ 1
one_of x g c n = go (ℕ_discrete x g) (ℕ_discrete x c)
  where
    go : Dec (x ≡ g) → Dec (x ≡ c) → same x g + same x c ≤ 1
    go (yes a) (yes b) = absurd (n (sym a ∙ b))
    go (yes a) (no b) = omega (arith, same_eq x g a, same_ne x c b)
    go (no a) (yes b) = omega (arith, same_ne x g a, same_eq x c b)
    go (no a) (no b) = omega (arith, same_ne x g a, same_ne x c b)

two_sizes : (h : Shape) (n g c : ℕ) → g ≢ c → size h n g + size h n c ≤ n
unfolding size total
two_sizes h zero g c d = omega arith
two_sizes h (suc n) g c d = omega (arith, two_sizes h n g c d, one_of (h.group n) g c d)

-- bases lie 8,192 apart
apart_bases : (t i j : ℕ) → i < j → gap t (base i) + gap t (base j) + 1 ≤ 8192 → ⊥
unfolding gap base
apart_bases t i j l e = omega (arith, e, l)

far_bases : (t i j : ℕ) → i ≢ j → gap t (base i) + gap t (base j) + 1 ≤ 8192 → ⊥
far_bases t i j n e = go (dec_lt i j)
  where
    go : Dec (i < j) → ⊥
    go (yes l) = apart_bases t i j l e
    go (no l) = apart_bases t j i (omega arith) (omega (arith, e))

near_base : (t b : ℕ) → gap t b + 1 ≤ 8192 → 8192 ≤ b → 1 ≤ t
unfolding gap
near_base t b e l = omega (arith, e, l)

under_base : (t i n : ℕ) → gap t (base i) + 1 ≤ 8192 → i ≤ n → t ≤ 8192 * n + 8191
unfolding gap base
under_base t i n e l = omega (arith, e, l)

module _ (es : List Edge) (pr : Proper es) {relabellings : ℕ} {m : Marks} {blocks : ℕ} (ghosts : Ghosts es relabellings m blocks) (room : length es ≤ 4096) where
  open ghosts use {shape as h, courses as w, origins as l, aligned as lab}

  abbrev off : ℕ → ℕ
  off v = offset m l v

  open_off : (v g : ℕ) → Stand es m h l v g → off v + 1 ≤ size h (length es) g
  open_off v g s =
      let u = s.between in
      let f = place_fits w u.hi g u.hi_at.inside u.hi_group in
      let k = fits_near l (l.block v) (h.place u.hi) (label_at m v) (size h (length es) g - 1) s.fits (omega (arith, f)) (omega (arith, s.last)) in
      omega (arith, k, f)

  any_off : (v e : ℕ) → degree es v ≡ 2 → At es v e → off v + 1 ≤ 2 * size h (length es) (h.group e)
  any_off v e c a = go (true_or_false (h.is_open (h.group e)))
    where
      go : (h.is_open (h.group e) ≡ true) ⊎ (h.is_open (h.group e) ≡ false) → off v + 1 ≤ 2 * size h (length es) (h.group e)
      go (inl o) = omega (arith, open_off v (h.group e) (lab.stands v e c a o))
      go (inr o) = lab.within v e c a o

  two_off : (v z e c : ℕ) → degree es v ≡ 2 → degree es z ≡ 2 → At es v e → At es z c → l.block v ≢ l.block z → off v + off z + 1 ≤ 8192
  two_off v z e c cv cz av az n = go (ℕ_discrete (h.group c) (h.group e)) (true_or_false (h.is_open (h.group e)))
    where
      go : Dec (h.group c ≡ h.group e) → (h.is_open (h.group e) ≡ true) ⊎ (h.is_open (h.group e) ≡ false) → off v + off z + 1 ≤ 8192
      go (yes q) (inl o) =
          let zs : Stand es m h l z (h.group e) = rw q at (lab.stands z c cz az (rw q o)) in
          omega (arith, open_off v (h.group e) (lab.stands v e cv av o), open_off z (h.group e) zs, size_most h (length es) (h.group e), room)
      go (yes q) (inr o) = omega (arith, lab.within_two v z e c cv cz av az o q n, size_most h (length es) (h.group e), room)
      go (no q) o = omega (arith, any_off v e cv av, any_off z c cz az, two_sizes h (length es) (h.group c) (h.group e) q, room)

  same_block : (v z e c : ℕ) → degree es v ≡ 2 → degree es z ≡ 2 → At es v e → At es z c → l.block v ≡ l.block z → label_at m v ≡ label_at m z → v ≡ z
  same_block v z e c cv cz av az bl tg = go (true_or_false (h.is_open (h.group e)))
    where
      q : h.group c ≡ h.group e
      q = sym (lab.owned z c cz az) ∙ ap l.owner (sym bl) ∙ lab.owned v e cv av

      go : (h.is_open (h.group e) ≡ true) ⊎ (h.is_open (h.group e) ≡ false) → v ≡ z
      go (inr o) = lab.single v z e c cv cz av az o q bl tg
      go (inl o) =
          let sv : Stand es m h l v (h.group e) = lab.stands v e cv av o in
          let sz : Stand es m h l z (h.group e) = rw q at (lab.stands z c cz az (rw q o)) in
          successive_one w sv.between sz.between (fits_same l (l.block v) (l.block z) _ _ _ _ bl tg sv.fits sz.fits)

  -- two regular vertices with one label are one vertex
  pub label_unique : (v z : ℕ) → degree es v ≡ 2 → degree es z ≡ 2 → label_at m v ≡ label_at m z → v ≡ z
  label_unique v z cv cz tg = go (ℕ_discrete (l.block v) (l.block z))
    where
      tv : TwoEdges es v
      tv = two_edges es v pr cv

      tz : TwoEdges es z
      tz = two_edges es z pr cz

      go : Dec (l.block v ≡ l.block z) → v ≡ z
      go (yes q) = same_block v z tv.low tz.low cv cz tv.low_at_lem tz.low_at_lem q tg
      go (no q) =
          let t : off v + off z + 1 ≤ 8192 = two_off v z tv.low tz.low cv cz tv.low_at_lem tz.low_at_lem q in
          absurd (far_bases (label_at m v) (l.block v) (l.block z) q (subst (λ (o : ℕ). off v + gap o (base (l.block z)) + 1 ≤ 8192) (sym tg) t))

  off_most : (v : ℕ) → degree es v ≡ 2 → off v + 1 ≤ 8192
  off_most v c =
      let t : TwoEdges es v = two_edges es v pr c in
      omega (arith, any_off v t.low c t.low_at_lem, size_most h (length es) (h.group t.low), room)

  -- no label of a regular vertex is 0
  pub not_zero : (v : ℕ) → degree es v ≡ 2 → 1 ≤ label_at m v
  not_zero v c = near_base (label_at m v) (base (l.block v)) (off_most v c) (base_least (l.block v) (lab.least v c))

  -- and none is beyond the last base by more than 8,191
  pub label_most : (v : ℕ) → degree es v ≡ 2 → label_at m v ≤ 8192 * blocks + 8191
  label_most v c = under_base (label_at m v) (l.block v) blocks (off_most v c) (lab.most v c)
