-- Groups and blocks together; and turned so that leaves lie where an edge joins them: x at its group's high end, y at its group's low end.
use mathlib.Core.Path.{◌≡◌, refl, sym, ap, ◌∙◌}
use mathlib.Core.Logic.{◌≢◌}
use Prim.Native.Nat.{ℕ, suc, ◌+◌, ◌-◌}
use native.Mathlib.Omega.{arith}
use native.Mathlib.Decide.{ℕ_discrete}
use mathlib.Core.Bool.{Bool, true, false, not}
use mathlib.Core.List.{List, []}
use lib.ListN.{length}
use Rattle.model.specs.Graph.{Edge, degree, far}
use Rattle.model.specs.Labels.{Marks, base}
use Rattle.model.proofs.Walks.Degree.{Proper}
use Rattle.model.proofs.Walks.Turn.{At}
use Rattle.theory.proofs.Groups.Shape.{Shape, size, LeafAt, at_low, at_high, pick, pick_yes, pick_no, Courses, no_shape, no_courses}
use Rattle.theory.proofs.Groups.Flip.{flipped, flip_size, flip_place, keep_place, flip_low, keep_low, flip_high, flip_courses, successive_flip, successive_keep}
use Rattle.model.proofs.Labels.Following.{label_at, low_at}
use Rattle.theory.proofs.Groups.Origins.{Origins, Fits, LowIs, Stand, Aligned, no_origins, no_aligned}

-- The whole ghost state: some groups whose courses pay for the relabellings, and blocks in which the labels stand.
pub record Ghosts (es : List Edge) (relabellings : ℕ) (m : Marks) (blocks : ℕ) : Type 0 where
  pub shape : Shape
  pub courses : Courses es relabellings shape
  pub origins : Origins
  pub aligned : Aligned es m blocks shape origins

-- without edges there is a ghost state
pub no_ghosts : (m : Marks) → Ghosts [] 0 m 0
no_ghosts m = record { shape = no_shape; courses = no_courses; origins = no_origins; aligned = no_aligned m }

-- ---- a group turned round

abbrev flipped_origins : Origins → ℕ → ℕ → Origins
flipped_origins l g s = record {
  block = l.block;
  owner = l.owner;
  origin = λ k. pick (l.owner k) g (s - l.origin k) (l.origin k);
  rising = λ k. pick (l.owner k) g (not (l.rising k)) (l.rising k);
}

fits_flip : (up : Bool) (q b i t s i' q' : ℕ) → i + i' ≡ s → q + q' ≡ s → Fits up q b i t → Fits (not up) q' b i' t
fits_flip true q b i t s i' q' e f h = omega (arith, e, f, h)
fits_flip false q b i t s i' q' e f h = omega (arith, e, f, h)

low_flip : (up : Bool) (lo hi l : ℕ) → LowIs up lo hi l → LowIs (not up) hi lo l
low_flip true lo hi l e = e
low_flip false lo hi l e = e

module _ (es : List Edge) (pr : Proper es) {relabellings : ℕ} {h : Shape} (w : Courses es relabellings h) (g : ℕ) {m : Marks} {blocks : ℕ} {l : Origins} (lab : Aligned es m blocks h l) where
  abbrev h' : Shape
  h' = flipped es h g

  abbrev l' : Origins
  l' = flipped_origins l g (size h (length es) g)

  rising_flip : (k : ℕ) → l.owner k ≡ g → l'.rising k ≡ not (l.rising k)
  rising_flip k q = pick_yes (l.owner k) g _ _ q

  origin_flip : (k : ℕ) → l.owner k ≡ g → l'.origin k ≡ size h (length es) g - l.origin k
  origin_flip k q = pick_yes (l.owner k) g _ _ q

  rising_keep : (k : ℕ) → l.owner k ≢ g → l'.rising k ≡ l.rising k
  rising_keep k q = pick_no (l.owner k) g _ _ q

  origin_keep : (k : ℕ) → l.owner k ≢ g → l'.origin k ≡ l.origin k
  origin_keep k q = pick_no (l.owner k) g _ _ q

  stand_flip : (v : ℕ) → l.owner (l.block v) ≡ g → Stand es m h l v g → Stand es m h' l' v g
  unfolding successive_flip
  stand_flip v o s =
      let u = s.between in
      let p = flip_place es pr w g u.lo u.lo_at.inside u.lo_group in
      record {
        between = successive_flip es pr w g v u;
        first = rw (origin_flip (l.block v) o) (omega (arith, s.last));
        last = rw (origin_flip (l.block v) o, flip_size es h g (length es) g) (omega (arith, s.first, s.last));
        fits = rw (rising_flip (l.block v) o, origin_flip (l.block v) o)
            (fits_flip (l.rising (l.block v)) (l.origin (l.block v)) (base (l.block v)) (h.place u.hi) (label_at m v) (size h (length es) g) _ _
            (omega (arith, p, u.step)) (omega (arith, s.last)) s.fits);
        low_is = rw (rising_flip (l.block v) o) (low_flip (l.rising (l.block v)) u.lo u.hi (low_at m v) s.low_is);
      }

  stand_keep : (v c : ℕ) → c ≢ g → l.owner (l.block v) ≢ g → Stand es m h l v c → Stand es m h' l' v c
  unfolding successive_keep
  stand_keep v c n o s =
      let u = s.between in
      record {
        between = successive_keep es pr w g v c n u;
        first = rw (origin_keep (l.block v) o) s.first;
        last = rw (origin_keep (l.block v) o, flip_size es h g (length es) c) s.last;
        fits = rw (rising_keep (l.block v) o, origin_keep (l.block v) o, keep_place es h g u.hi (λ z. n (sym u.hi_group ∙ z))) s.fits;
        low_is = rw (rising_keep (l.block v) o) s.low_is;
      }

  stands' : (v e : ℕ) → degree es v ≡ 2 → At es v e → h'.is_open (h'.group e) ≡ true → Stand es m h' l' v (h'.group e)
  stands' v e c a t = go (ℕ_discrete (h.group e) g)
    where
      s : Stand es m h l v (h.group e)
      s = lab.stands v e c a t

      go : Dec (h.group e ≡ g) → Stand es m h' l' v (h.group e)
      go (yes q) = rw q (stand_flip v (lab.owned v e c a ∙ q) (rw q at s))
      go (no q) = stand_keep v (h.group e) q (λ z. q (sym (lab.owned v e c a) ∙ z)) s

  flip_aligned : Aligned es m blocks (flipped es h g) (flipped_origins l g (size h (length es) g))
  unfolding size
  flip_aligned = record {
    owned = lab.owned;
    least = lab.least;
    most = lab.most;
    along = lab.along;
    stands = stands';
    single = lab.single;
    within = lab.within;
    within_two = lab.within_two;
  }

-- the same groups, each read from one end or the other
pub record Alike (h h' : Shape) : Type 0 where
  pub group_same : (e : ℕ) → h'.group e ≡ h.group e
  pub open_same : (g : ℕ) → h'.is_open g ≡ h.is_open g
  pub ring_same : (g : ℕ) → h'.is_ring g ≡ h.is_ring g

-- leaf x, whose edge is e, at the high end of its group; the groups were those of h₀
pub record High (es : List Edge) (relabellings : ℕ) (m : Marks) (blocks : ℕ) (h₀ : Shape) (x e : ℕ) : Type 0 where
  pub ghosts : Ghosts es relabellings m blocks
  pub hi : far es e (ghosts.shape.low e) ≡ x
  pub top : suc (ghosts.shape.place e) ≡ size ghosts.shape (length es) (ghosts.shape.group e)
  pub alike : Alike h₀ ghosts.shape

-- .. and leaf y, whose edge is c, at the low end of its own
pub record Facing (es : List Edge) (relabellings : ℕ) (m : Marks) (blocks : ℕ) (h₀ : Shape) (x e y c : ℕ) : Type 0 where
  pub high : High es relabellings m blocks h₀ x e
  pub lo : high.ghosts.shape.low c ≡ y
  pub bot : high.ghosts.shape.place c ≡ 0

module _ (es : List Edge) (pr : Proper es) {relabellings : ℕ} {m : Marks} {blocks : ℕ} where
  abbrev turned : (q : Ghosts es relabellings m blocks) (g : ℕ) → q.shape.is_open g ≡ true → Ghosts es relabellings m blocks
  turned q g o = record {
    shape = flipped es q.shape g;
    courses = flip_courses es pr q.courses g o;
    origins = flipped_origins q.origins g (size q.shape (length es) g);
    aligned = flip_aligned es pr q.courses g q.aligned;
  }

  -- a leaf can be turned to the high end of its group
  pub turn_high : (q : Ghosts es relabellings m blocks) (x e : ℕ) → degree es x ≡ 1 → At es x e → High es relabellings m blocks q.shape x e
  turn_high q x e c a = go (q.courses.leaf x e c a)
    where
      h : Shape
      h = q.shape

      g : ℕ
      g = h.group e

      go : LeafAt es h x e → High es relabellings m blocks q.shape x e
      go (at_high i t) = record { ghosts = q; hi = i; top = t; alike = record { group_same = λ z. refl; open_same = λ z. refl; ring_same = λ z. refl } }
      go (at_low i t) = record {
        ghosts = turned q g (q.courses.leaf_open x e c a);
        hi = flip_high es pr q.courses g e a.inside refl ∙ i;
        top = rw (flip_size es h g (length es) ((flipped es h g).group e)) (omega (arith, flip_place es pr q.courses g e a.inside refl, t));
        alike = record { group_same = λ z. refl; open_same = λ z. refl; ring_same = λ z. refl };
      }

  -- two leaves can be turned so that they face each other
  pub turn_facing : (q : Ghosts es relabellings m blocks) (x e y c : ℕ) → x ≢ y → degree es x ≡ 1 → At es x e → degree es y ≡ 1 → At es y c → Facing es relabellings m blocks q.shape x e y c
  turn_facing q₀ x e y c ne cx a cy b = go (w.leaf y c cy b) (ℕ_discrete (h.group e) (h.group c))
    where
      k : High es relabellings m blocks q₀.shape x e
      k = turn_high q₀ x e cx a

      h : Shape
      h = k.ghosts.shape

      w : Courses es relabellings h
      w = k.ghosts.courses

      g : ℕ
      g = h.group c

      go : LeafAt es h y c → Dec (h.group e ≡ h.group c) → Facing es relabellings m blocks q₀.shape x e y c
      go (at_low i t) s = record { high = k; lo = i; bot = t }
      go (at_high i t) (yes s) =
          let t' : suc (h.place c) ≡ size h (length es) (h.group e) = rw s t in
          let z : e ≡ c = w.apart e c a.inside b.inside s (omega (arith, t', k.top)) in
          absurd (ne (sym k.hi ∙ ap (λ (d : ℕ). far es d (h.low d)) z ∙ i))
      go (at_high i t) (no s) = record {
        high = record {
          ghosts = turned k.ghosts g (w.leaf_open y c cy b);
          hi = rw (keep_low es h g e s) k.hi;
          top = rw (flip_size es h g (length es) ((flipped es h g).group e), keep_place es h g e s) k.top;
          alike = record { group_same = k.alike.group_same; open_same = k.alike.open_same; ring_same = k.alike.ring_same };
        };
        lo = flip_low es h g c refl ∙ i;
        bot = omega (arith, flip_place es pr w g c b.inside refl, t);
      }
