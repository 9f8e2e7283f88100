-- The groups after one more edge: it follows the end of group gx, and what was group gy follows it.
use mathlib.Core.Path.{◌≡◌, refl, sym, ap, ◌∙◌}
use mathlib.Core.Logic.{◌≢◌, ◌⊎◌}
use Prim.Native.Nat.{ℕ, ◌+◌, ◌≤◌, ◌<◌}
use native.Mathlib.Omega.{arith}
use native.Mathlib.Decide.{ℕ_discrete}
use mathlib.Core.Bool.{Bool, true}
use mathlib.Core.List.{List, [], ◌∷◌, ◌++◌}
use lib.ListN.{length}
use Rattle.model.specs.Graph.{Edge, ends_at, far, same}
use Rattle.model.proofs.Walks.Degree.{Proper, two_ends}
use Rattle.model.proofs.Walks.Snoc.{far_old}
use Rattle.model.proofs.Walks.NewEdge.{length_new}
use Rattle.theory.proofs.Groups.Seams.{Seam}
use Rattle.theory.proofs.Groups.Shape.{Shape, size, pick, pick_yes, pick_no, Courses}
use Rattle.model.proofs.Walks.NewTurn.{far_last}
use Rattle.model.proofs.Basics.Counting.{same_eq, same_ne}
use Rattle.model.proofs.Basics.Total.{total, total_same, total_add}

-- the groups after edge n: it joins gx at the end x, gy follows, and k relabellings are charged
unfoldable pub grown : Shape → (n gx gy x k : ℕ) → Bool → Bool → Shape
grown h n gx gy x k b r = record {
  group = λ e. pick e n gx (pick (h.group e) gy gx (h.group e));
  place = λ e. pick e n (size h n gx) (pick (h.group e) gy (size h n gx + 1) 0 + h.place e);
  low = λ e. pick e n x (h.low e);
  spent = λ g. pick g gx (h.spent gx + h.spent gy + k) (pick g gy 0 (h.spent g));
  is_open = λ g. pick g gx b (h.is_open g);
  is_ring = λ g. pick g gx r (h.is_ring g);
}

-- One more edge p in the list es, with groups h, that follows the end x of group gx; its other end is y, and what was group gy follows
-- it. k labels change, and the course is open afterwards if b, and a ring if r.
pub record Growth : Type 0 where
  pub es : List Edge
  pub p : Edge
  pub pr : Proper es
  pub d : p.first ≢ p.second
  pub relabellings : ℕ
  pub h : Shape
  pub w : Courses es relabellings h
  pub gx : ℕ
  pub gy : ℕ
  pub x : ℕ
  pub y : ℕ
  pub k : ℕ
  pub b : Bool
  pub r : Bool
  pub s : Seam es p h gx gy x y k b r

-- the edges and the groups with the new edge
pub record GrownTo : Type 0 where
  pub new : List Edge
  pub h' : Shape

-- the edges and the groups of a growth
abbrev pub grown_to : Growth → GrownTo
grown_to it = record { new = it.es ++ (it.p ∷ []); h' = grown it.h (length it.es) it.gx it.gy it.x it.k it.b it.r }

module _ (it : Growth) where
  open it use {es, p, pr, d, h, gx, gy, x, y, b, r, s}
  open grown_to it use {new, h'}

  abbrev n : ℕ
  n = length es

  -- what was group g is group `goes_to g` now, `goes_by g` places further on
  abbrev pub goes_to : ℕ → ℕ
  goes_to g = pick g gy gx g

  abbrev pub goes_by : ℕ → ℕ
  goes_by g = pick g gy (size h (length es) gx + 1) 0

  -- group g follows the new edge, or stays
  pub data Goes (g : ℕ) : Type 0 where
    follows : g ≡ gy → goes_to g ≡ gx → goes_by g ≡ size h (length es) gx + 1 → Goes g
    stays : g ≢ gy → goes_to g ≡ g → goes_by g ≡ 0 → Goes g

  -- every group does one of the two
  pub goes : (g : ℕ) → Goes g
  goes g = go (ℕ_discrete g gy)
    where
      go : Dec (g ≡ gy) → Goes g
      go (yes q) = follows q (pick_yes g gy gx g q) (pick_yes g gy _ _ q)
      go (no q) = stays q (pick_no g gy gx g q) (pick_no g gy _ _ q)

  -- the group, the place and the low end of an edge now
  pub record Seen (e g i v : ℕ) : Type 0 where
    pub group_is : h'.group e ≡ g
    pub place_is : h'.place e ≡ i
    pub low_is : h'.low e ≡ v

  -- group, place and low end of the new edge
  pub seen_new : Seen (length es) gx (size h (length es) gx) x
  unfolding grown
  seen_new = record { group_is = pick_yes n n _ _ refl; place_is = pick_yes n n _ _ refl; low_is = pick_yes n n _ _ refl }

  -- group, place and low end of an old edge: of any, of one of gy, and of one of another group
  pub seen_old : (e g : ℕ) → e < length es → h.group e ≡ g → Seen e (goes_to g) (goes_by g + h.place e) (h.low e)
  unfolding grown
  seen_old e g l q =
      let ne : e ≢ length es = λ z. omega arith in
      record { group_is = pick_no e n _ _ ne ∙ ap goes_to q; place_is = pick_no e n _ _ ne ∙ ap (λ (c : ℕ). goes_by c + h.place e) q; low_is = pick_no e n _ _ ne }

  pub seen_y : (e : ℕ) → e < length es → h.group e ≡ gy → Seen e gx (size h (length es) gx + 1 + h.place e) (h.low e)
  seen_y e l q =
      let o = seen_old e gy l q in
      record { group_is = o.group_is ∙ pick_yes gy gy gx gy refl; place_is = omega (arith, o.place_is, pick_yes gy gy (size h n gx + 1) 0 refl); low_is = o.low_is }

  pub seen_o : (e g : ℕ) → g ≢ gy → e < length es → h.group e ≡ g → Seen e g (h.place e) (h.low e)
  seen_o e g d l q =
      let o = seen_old e g l q in
      record { group_is = o.group_is ∙ pick_no g gy gx g d; place_is = omega (arith, o.place_is, pick_no g gy (size h n gx + 1) 0 d); low_is = o.low_is }

  -- sizes
  part_x : (e : ℕ) → e < length es → same (h'.group e) gx ≡ same (h.group e) gx + same (h.group e) gy
  part_x e l = go (ℕ_discrete (h.group e) gy)
    where
      go : Dec (h.group e ≡ gy) → same (h'.group e) gx ≡ same (h.group e) gx + same (h.group e) gy
      go (yes q) = omega (arith, same_eq (h'.group e) gx (seen_y e l q).group_is, same_eq (h.group e) gy q, same_ne (h.group e) gx (λ z. s.differ (sym z ∙ q)))
      go (no q) = rw (seen_o e (h.group e) q l refl).group_is (omega (arith, same_ne (h.group e) gy q))

  -- gx has gained gy and the new edge
  pub size_x : size h' (length new) gx ≡ size h (length es) gx + size h (length es) gy + 1
  unfolding size total
  size_x = rw (length_new es p) (omega (arith, same_eq (h'.group (length es)) gx seen_new.group_is, total_same (length es) _ _ part_x, total_add (length es) (λ e. same (h.group e) gx) (λ e. same (h.group e) gy)))

  part_o : (g : ℕ) → g ≢ gx → g ≢ gy → (e : ℕ) → e < length es → same (h'.group e) g ≡ same (h.group e) g
  part_o g a c e l = go (ℕ_discrete (h.group e) gy)
    where
      go : Dec (h.group e ≡ gy) → same (h'.group e) g ≡ same (h.group e) g
      go (yes q) = omega (arith, same_ne (h'.group e) g (λ z. a (sym z ∙ (seen_y e l q).group_is)), same_ne (h.group e) g (λ z. c (sym z ∙ q)))
      go (no q) = rw (seen_o e (h.group e) q l refl).group_is refl

  -- another group keeps its size
  pub size_o : (g : ℕ) → g ≢ gx → g ≢ gy → size h' (length new) g ≡ size h (length es) g
  unfolding size total
  size_o g a c = rw (length_new es p) (omega (arith, same_ne (h'.group (length es)) g (λ z. a (sym z ∙ seen_new.group_is)), total_same (length es) _ _ (part_o g a c)))

  -- what was group g has its places in the group that it is now
  pub goes_room : (g : ℕ) → goes_by g + size h (length es) g ≤ size h' (length new) (goes_to g)
  goes_room g = go (goes g) (ℕ_discrete g gx)
    where
      go : Goes g → Dec (g ≡ gx) → goes_by g + size h (length es) g ≤ size h' (length new) (goes_to g)
      go (follows q t c) d = rw (t, c) (omega (arith, size_x, ap (size h n) q))
      go (stays q t c) (yes r) = rw (t, c) (omega (arith, size_x, ap (size h n) r, ap (size h' (length new)) r))
      go (stays q t c) (no r) = rw (t, c) (omega (arith, size_o g r q))

  -- an old edge keeps its low end
  pub low_old : (e : ℕ) → e < length es → h'.low e ≡ h.low e
  unfolding grown
  low_old e i = pick_no e (length es) x (h.low e) (λ z. omega arith)

  -- the new edge's ends
  pub far_new : far new (length es) x ≡ y
  far_new = far_last es p pr d x y s.high.x_end s.low.y_end s.x_y

  -- who is an end of the new edge is x or y
  pub x_or_y : (z : ℕ) → ends_at z p ≡ 1 → (z ≡ x) ⊎ (z ≡ y)
  x_or_y z o = two_ends p x y z s.high.x_end s.low.y_end s.x_y o

  -- an old edge keeps its high end
  pub old_end : (e : ℕ) → e < length es → far new e (h'.low e) ≡ far es e (h.low e)
  old_end e i = rw (low_old e i) (far_old es p e (h.low e) i)

  -- gx is open if b, a ring if r; any other group is what it was
  pub open_gx : h'.is_open gx ≡ b
  unfolding grown
  open_gx = pick_yes gx gx b (h.is_open gx) refl

  pub open_o : (g : ℕ) → g ≢ gx → h'.is_open g ≡ h.is_open g
  unfolding grown
  open_o g q = pick_no g gx b (h.is_open g) q

  pub ring_gx : h'.is_ring gx ≡ r
  unfolding grown
  ring_gx = pick_yes gx gx r (h.is_ring gx) refl

  pub ring_o : (g : ℕ) → g ≢ gx → h'.is_ring g ≡ h.is_ring g
  unfolding grown
  ring_o g q = pick_no g gx r (h.is_ring g) q

  -- a group that is open was open
  pub was_open : (e : ℕ) → e < length es → h'.is_open (h'.group e) ≡ true → h.is_open (h.group e) ≡ true
  was_open e i t = go (ℕ_discrete (h.group e) gy) (ℕ_discrete (h.group e) gx)
    where
      go : Dec (h.group e ≡ gy) → Dec (h.group e ≡ gx) → h.is_open (h.group e) ≡ true
      go (yes q) d = rw q (s.low.open_y e i q).0
      go (no q) (yes r) = rw r (s.high.open_x e i r)
      go (no q) (no r) = sym (open_o (h.group e) r) ∙ (rw (seen_o e _ q i refl).group_is at t)
