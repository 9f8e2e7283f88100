-- Where a path begins: its block, its label and its direction, from the neighbour of its first vertex.
use mathlib.Core.Path.{◌≡◌, refl, sym, ap, ◌∙◌, subst}
use mathlib.Core.Logic.{◌≢◌, ◌⊎◌, inl, inr}
use Prim.Native.Nat.{ℕ, suc, ◌+◌, ◌-◌}
use native.Mathlib.Omega.{arith}
use mathlib.Core.Bool.{Bool, true, false}
use mathlib.Core.List.{List, [], ◌∷◌, ◌++◌}
use lib.ListN.{length, get_or}
use Rattle.model.specs.Graph.{Edge, degree, far}
use Rattle.model.specs.Labels.{Marks, base}
use Rattle.model.proofs.Walks.Degree.{Proper}
use Rattle.model.proofs.Walks.Turn.{At}
use Rattle.theory.proofs.Groups.Shape.{Shape, size, pick, pick_yes, pick_no, successive_differ, successive_or, Courses}
use Rattle.theory.proofs.Labels.Closed.{Direction}
use Rattle.theory.proofs.Labels.Laid.{Near, none_near, near}
use Rattle.model.proofs.Labels.Following.{label_at, low_at}
use Rattle.theory.proofs.Groups.Origins.{Origins, BlockAt, Aligned, Stand, FitsBlock, LowIs}
use Rattle.model.proofs.Walks.Joins.{across, far_ne}

-- one more block, to which no regular vertex belongs yet
abbrev pub with_block : Origins → (k g q : ℕ) → Bool → Origins
with_block l k g q up = record {
  block = l.block;
  owner = λ i. pick i k g (l.owner i);
  origin = λ i. pick i k q (l.origin i);
  rising = λ i. pick i k up (l.rising i);
}

module _ (es : List Edge) (m : Marks) (blocks : ℕ) (h : Shape) (l : Origins) (lab : Aligned es m blocks h l) (g q : ℕ) (up : Bool) where
  abbrev l' : Origins
  l' = with_block l (blocks + 1) g q up

  not_new : (v : ℕ) → degree es v ≡ 2 → l.block v ≢ blocks + 1
  not_new v c z = omega (arith, z, lab.most v c)

  old_owner : (v : ℕ) → degree es v ≡ 2 → l'.owner (l'.block v) ≡ l.owner (l.block v)
  old_owner v c = pick_no (l.block v) (blocks + 1) _ _ (not_new v c)

  old_origin : (v : ℕ) → degree es v ≡ 2 → l'.origin (l'.block v) ≡ l.origin (l.block v)
  old_origin v c = pick_no (l.block v) (blocks + 1) _ _ (not_new v c)

  old_rising : (v : ℕ) → degree es v ≡ 2 → l'.rising (l'.block v) ≡ l.rising (l.block v)
  old_rising v c = pick_no (l.block v) (blocks + 1) _ _ (not_new v c)

  stand_more : (v c : ℕ) → degree es v ≡ 2 → Stand es m h l v c → Stand es m h l' v c
  stand_more v c d s = record {
    between = s.between;
    first = rw (old_origin v d) s.first;
    last = rw (old_origin v d) s.last;
    fits = rw (old_origin v d, old_rising v d) s.fits;
    low_is = rw (old_rising v d) s.low_is;
  }

  -- one block more leaves the labels aligned
  pub more_blocks : Aligned es m (blocks + 1) h (with_block l (blocks + 1) g q up)
  more_blocks = record {
    owned = λ v e c a. old_owner v c ∙ lab.owned v e c a;
    least = lab.least;
    most = λ v c. omega (arith, lab.most v c);
    along = lab.along;
    stands = λ v e c a o. stand_more v (h.group e) c (lab.stands v e c a o);
    single = lab.single;
    within = lab.within;
    within_two = lab.within_two;
  }

-- where the path of a landing at x begins; e is x's edge, at the high end of its group
pub record Start (es : List Edge) (p : Edge) (m : Marks) (h : Shape) (x e : ℕ) (up : Bool) (label blocks' : ℕ) : Type 0 where
  pub origins : Origins
  pub aligned : Aligned es m blocks' h origins
  pub now : ℕ
  pub block_at : BlockAt origins blocks' (h.group e) (size h (length es) (h.group e)) up now
  pub fits : FitsBlock origins now (h.place e) label
  pub beside : degree (es ++ (p ∷ [])) (far es e x) ≡ 2 → origins.block (far es e x) ≡ now

-- the direction beside a vertex at the high end of a course is the one of its block
same_way : (up r : Bool) (lo hi low e : ℕ) → lo ≢ hi → e ≡ hi → Direction up low e → LowIs r lo hi low → up ≡ r
same_way true true lo hi low e n q k lw = refl
same_way false false lo hi low e n q k lw = refl
same_way true false lo hi low e n q k lw = absurd (k (lw ∙ sym q))
same_way false true lo hi low e n q k lw = absurd (n (sym lw ∙ k ∙ q))

module _ (es : List Edge) (p : Edge) (pr : Proper es) {relabellings : ℕ} {m : Marks} {blocks : ℕ} {h : Shape} (w : Courses es relabellings h) {l : Origins} (lab : Aligned es m blocks h l)
    (x e : ℕ) (cx : degree es x ≡ 1) (a : At es x e) (hi : far es e (h.low e) ≡ x) (top : suc (h.place e) ≡ size h (length es) (h.group e)) where
  v : ℕ
  v = far es e x

  start_new : (up : Bool) (label blocks' : ℕ) → degree (es ++ (p ∷ [])) (far es e x) ≢ 2 → up ≡ true → label ≡ base (blocks + 1) - 1 → blocks' ≡ blocks + 1 → Start es p m h x e up label blocks'
  unfolding base
  start_new up label blocks' n u t b =
      let g = h.group e in
      let s = size h (length es) g in
      let rises = pick_yes (blocks + 1) (blocks + 1) true (l.rising (blocks + 1)) refl in
      let origin = pick_yes (blocks + 1) (blocks + 1) s (l.origin (blocks + 1)) refl in
      rw (u, t, b) (record {
        origins = with_block l (blocks + 1) g s true;
        aligned = more_blocks es m blocks h l lab g s true;
        now = blocks + 1;
        block_at = record {
          least = omega arith;
          most = omega arith;
          owner_is = pick_yes (blocks + 1) (blocks + 1) g _ refl;
          rising_is = rises;
          first = rw origin (omega (arith, top));
          last = rw origin (omega arith);
        };
        fits = rw (rises, origin) (omega (arith, top));
        beside = λ c. absurd (n c);
      })

  start_on : (up : Bool) (label blocks' : ℕ) → degree es (far es e x) ≡ 2 → label ≡ get_or m.labels (far es e x) 0 → blocks' ≡ blocks
      → Direction up (get_or m.lows (far es e x) 0) e → Start es p m h x e up label blocks'
  unfolding v label_at low_at
  start_on up label blocks' c t b dir = go (successive_or es h v (h.group e) e pr c s.between av)
    where
      av : At es v e
      av = (across es e x pr a).at

      s : Stand es m h l v (h.group e)
      s = lab.stands v e c av (w.leaf_open x e cx a)

      start : up ≡ l.rising (l.block v) → e ≡ s.between.hi → Start es p m h x e up label blocks'
      start u q = rw (u, t, b) (record {
        origins = l;
        aligned = lab;
        now = l.block v;
        block_at = record {
          least = lab.least v c;
          most = lab.most v c;
          owner_is = lab.owned v e c av;
          rising_is = refl;
          first = s.first;
          last = omega (arith, s.last);
        };
        fits = subst (λ (i : ℕ). FitsBlock l (l.block v) (h.place i) (get_or m.labels v 0)) (sym q) s.fits;
        beside = λ z. refl;
      })

      go : (e ≡ s.between.lo) ⊎ (e ≡ s.between.hi) → Start es p m h x e up label blocks'
      go (inl q) = absurd (far_ne es e x pr a (sym (sym hi ∙ ap (λ (i : ℕ). far es i (h.low i)) q ∙ s.between.lo_end)))
      go (inr q) = start (same_way up (l.rising (l.block v)) s.between.lo s.between.hi _ e (successive_differ s.between) q dir s.low_is) q

  -- so it begins, beside a vertex or with a new block
  pub start_of : (up : Bool) (label blocks' : ℕ) → Near es p (far es e x) blocks e m up label blocks' → Start es p m h x e up label blocks'
  start_of up label blocks' (none_near n u t b) = start_new up label blocks' n u t b
  start_of up label blocks' (near c o t b dir) = start_on up label blocks' c t b dir
