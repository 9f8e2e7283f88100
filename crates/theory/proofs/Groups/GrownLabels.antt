-- One more edge and its labels: the path wears new ones, all others what they wore, and each block keeps to its group.
use mathlib.Core.Path.{◌≡◌, refl, sym, ap, ◌∙◌, subst}
use mathlib.Core.Logic.{◌⊎◌, inl, inr}
use Prim.Native.Nat.{ℕ, zero, suc, ◌+◌, ◌≤◌}
use native.Mathlib.Decide.{ℕ_discrete}
use mathlib.Core.Bool.{Bool, true}
use mathlib.Core.List.{List, [], ◌∷◌}
use lib.ListN.{length}
use Rattle.model.specs.Graph.{Pass, degree}
use Rattle.model.specs.Labels.{Marks}
use Rattle.model.proofs.Walks.Degree.{proper_snoc}
use Rattle.model.proofs.Walks.Turn.{At, some_edge}
use Rattle.theory.proofs.Groups.Shape.{size, pick, pick_yes, pick_no}
use Rattle.theory.proofs.Groups.Climb.{Spot}
use Rattle.model.proofs.Walks.NewEdge.{old_edge}
use Rattle.model.proofs.Walks.Places.{Ith, here, later, no_ith, InPath, Off}
use Rattle.theory.proofs.Groups.Origins.{Origins, Aligned, BlockAt, FitsBlock}
use Rattle.theory.proofs.Labels.WearsAfter.{WearsAfter, in_path, as_was}
use Rattle.theory.proofs.Groups.Grown.{Growth, grown_to, goes_to, seen_old}

-- the blocks after a path is labelled
unfoldable pub path_block : ℕ → List Pass → (ℕ → ℕ) → ℕ → ℕ
path_block k [] f v = f v
path_block k (s ∷ ss) f v = pick s.at v k (path_block k ss f v)

-- a vertex of the path has the path's block, any other its own
pub given_in : (k : ℕ) (path : List Pass) (f : ℕ → ℕ) (v i : ℕ) (s : Pass) → Ith s i path → s.at ≡ v → path_block k path f v ≡ k
unfolding path_block
given_in k [] f v i s j e = absurd (no_ith j)
given_in k (t ∷ ss) f v zero s here e = pick_yes t.at v k _ e
given_in k (t ∷ ss) f v (suc i) s (later j) e = go (ℕ_discrete t.at v) (given_in k ss f v i s j e)
  where
    go : Dec (t.at ≡ v) → path_block k ss f v ≡ k → pick t.at v k (path_block k ss f v) ≡ k
    go (yes q) h = pick_yes t.at v k _ q
    go (no q) h = pick_no t.at v k _ q ∙ h

pub given_out : (k : ℕ) (path : List Pass) (f : ℕ → ℕ) (v : ℕ) → Off path v → path_block k path f v ≡ f v
unfolding path_block
given_out k [] f v n = refl
given_out k (t ∷ ss) f v n = pick_no t.at v k _ (n 0 t here) ∙ given_out k ss f v (λ i s j. n (suc i) s (later j))

abbrev pub grown_origins : Origins → (gx gy s now : ℕ) → List Pass → Origins
grown_origins l gx gy s now path = record {
  block = path_block now path l.block;
  owner = λ i. pick (l.owner i) gy gx (l.owner i);
  origin = λ i. pick (l.owner i) gy (s + 1) 0 + l.origin i;
  rising = l.rising;
}

-- One more edge, and the labels: the marks m before it and afterwards, and the path that is labelled. Each vertex of the path lies in group
-- gx and shares edges only with others of the path or of its block.
pub record GrownLabels : Type 0 where
  pub it : Growth
  pub m : Marks
  pub blocks' : ℕ
  pub l : Origins
  pub lab : Aligned it.es m blocks' it.h l
  pub path : List Pass
  pub up : Bool
  pub ith : ℕ → ℕ
  pub now : ℕ
  pub start : ℕ
  pub path_group : (i : ℕ) (t : Pass) (e : ℕ) → Ith t i path → At (grown_to it).new t.at e → (grown_to it).h'.group e ≡ it.gx
  pub path_beside : (i : ℕ) (t : Pass) (w e : ℕ) → Ith t i path → degree (grown_to it).new w ≡ 2 → At (grown_to it).new t.at e → At (grown_to it).new w e
      → InPath path w ⊎ (l.block w ≡ now)
  pub path_spot : it.b ≡ true → (i : ℕ) (t : Pass) → Ith t i path → Spot (grown_to it).new (grown_to it).h' it.gx (start + i) t
  pub path_block_lem : (i : ℕ) (t : Pass) → Ith t i path → BlockAt l blocks' it.gx (size it.h (length it.es) it.gx) up now
  pub path_fits : it.b ≡ true → (i : ℕ) (t : Pass) → Ith t i path → FitsBlock l now (suc (start + i)) (ith i)
  pub marks_after : Marks
  pub worn : (v e : ℕ) → degree (grown_to it).new v ≡ 2 → At (grown_to it).new v e → WearsAfter it.es it.p m up ith path marks_after v

-- the origins and the marks with the new labels
pub record Renewed : Type 0 where
  pub l' : Origins
  pub marks_after : Marks

-- the origins and the marks after a landing
abbrev pub renewed : GrownLabels → Renewed
renewed re =
    let it = re.it in
    record { l' = grown_origins re.l it.gx it.gy (size it.h (length it.es) it.gx) re.now re.path; marks_after = re.marks_after }

module _ (re : GrownLabels) where
  open re use {it, m, blocks', l, lab, path, up, ith, now, path_group, path_beside, path_block_lem, worn}
  open it use {es, p, pr, d, gy, s}
  open grown_to it use {new, h'}
  open renewed re use {l', marks_after}

  -- what v wears after the landing
  abbrev pub Now : ℕ → Type 0
  Now v = WearsAfter es p m up ith path marks_after v

  -- every regular vertex wears a label of the path, or what it wore
  pub view : (v e : ℕ) → degree new v ≡ 2 → At new v e → Now v
  view = worn

  -- a vertex of the path has the path's block, any other the one it had
  pub block_in : (v i : ℕ) (t : Pass) → Ith t i path → t.at ≡ v → l'.block v ≡ now
  block_in v i t j e = given_in now path l.block v i t j e

  pub block_out : (v : ℕ) → Off path v → l'.block v ≡ l.block v
  block_out v n = given_out now path l.block v n

  -- the block of a regular vertex is of the group of its edges
  pub owned' : (v e : ℕ) → degree new v ≡ 2 → At new v e → l'.owner (l'.block v) ≡ h'.group e
  owned' v e c a = go (view v e c a)
    where
      go : Now v → l'.owner (l'.block v) ≡ h'.group e
      go (in_path i t j q f g) =
          let o = (path_block_lem i t j).owner_is in
          rw (block_in v i t j q) (pick_no (l.owner now) gy _ _ (λ z. s.differ (sym o ∙ z)) ∙ o ∙ sym (path_group i t e j (subst (λ (z : ℕ). At new z e) (sym q) a)))
      go (as_was c' z n f g) =
          let a' = old_edge es p v e z a in
          rw (block_out v n) (ap (goes_to it) (lab.owned v e c' a') ∙ sym (seen_old it e _ a'.inside refl).group_is)

  along_path : (v u e i : ℕ) (t : Pass) → Ith t i path → t.at ≡ v → degree new u ≡ 2 → At new v e → At new u e → l'.block u ≡ now
  along_path v u e i t j q c a a' = go (path_beside i t u e j c (subst (λ (z : ℕ). At new z e) (sym q) a) a')
    where
      was : l.block u ≡ now → Now u → l'.block u ≡ now
      was z (in_path i' t' j' q' f g) = block_in u i' t' j' q'
      was z (as_was c' e' n f g) = block_out u n ∙ z

      go : InPath path u ⊎ (l.block u ≡ now) → l'.block u ≡ now
      go (inl f) = block_in u f.index f.pass_is f.ith f.at_is
      go (inr z) = was z (view u e c a')

  -- neighbours are of one block
  pub along' : (v u e : ℕ) → degree new v ≡ 2 → degree new u ≡ 2 → At new v e → At new u e → l'.block v ≡ l'.block u
  along' v u e c c' a a' = go (view v e c a) (view u e c' a')
    where
      go : Now v → Now u → l'.block v ≡ l'.block u
      go (in_path i t j q f g) o = block_in v i t j q ∙ sym (along_path v u e i t j q c' a a')
      go (as_was d₁ z n f g) (in_path i t j q f' g') = along_path u v e i t j q c a' a ∙ sym (block_in u i t j q)
      go (as_was d₁ z n f g) (as_was d₂ z' n' f' g') = block_out v n ∙ lab.along v u e d₁ d₂ (old_edge es p v e z a) (old_edge es p u e z' a') ∙ sym (block_out u n')

  -- what holds of the path's block and of all old ones holds of the new ones
  each_block : (P : ℕ → Type 0) → ((i : ℕ) (t : Pass) → Ith t i path → P now) → ((v : ℕ) → degree es v ≡ 2 → P (l.block v)) → (v : ℕ) → degree new v ≡ 2 → P (l'.block v)
  each_block P on_path off_path v c = let s = some_edge new v (proper_snoc es p pr d) c in go (view v s.0 c s.1)
    where
      go : Now v → P (l'.block v)
      go (in_path i t j q f g) = rw (block_in v i t j q) (on_path i t j)
      go (as_was d₁ z n f g) = rw (block_out v n) (off_path v d₁)

  -- blocks are numbered from 1 to the number of blocks made
  pub least' : (v : ℕ) → degree new v ≡ 2 → 1 ≤ l'.block v
  least' = each_block (λ k. 1 ≤ k) (λ i t j. (path_block_lem i t j).least) lab.least

  pub most' : (v : ℕ) → degree new v ≡ 2 → l'.block v ≤ blocks'
  most' = each_block (λ k. k ≤ blocks') (λ i t j. (path_block_lem i t j).most) lab.most
