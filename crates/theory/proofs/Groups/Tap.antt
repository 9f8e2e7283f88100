-- A tap, for the groups: the ring spends its credit. The list of edges is the one before the landing.
use mathlib.Core.Path.{◌≡◌, refl, sym, ◌∙◌}
use mathlib.Core.Logic.{◌≢◌, ◌⊎◌, inl, inr}
use Prim.Native.Nat.{ℕ, ◌+◌, ◌*◌, ◌≤◌, ◌<◌}
use native.Mathlib.Omega.{arith}
use native.Mathlib.Decide.{ℕ_discrete}
use mathlib.Core.Bool.{true, false}
use mathlib.Core.List.{List, Memᴰ as Mem}
use lib.ListN.{length}
use Rattle.model.specs.Basics.{floor_log}
use Rattle.model.specs.Graph.{Edge, degree, far, same}
use Rattle.model.proofs.Basics.Booleans.{not_both}
use Rattle.model.proofs.Basics.Counting.{occurs, occurs_or, Distinct, AllBelow, same_eq, same_ne}
use Rattle.model.proofs.Basics.Total.{total, total_same, total_add, total_le, total_one, count_all}
use Rattle.theory.proofs.Groups.Shape.{Shape, size, pick, pick_yes, pick_no, LeafAt, at_low, at_high, Successive, NextRound, Courses}

-- ---- distinct edges of a group are at most its size

-- distinct edges of a group are at most its size
pub few_of_group : (h : Shape) (n g : ℕ) (ds : List ℕ) → Distinct ds → AllBelow n ds → ((e : ℕ) → Mem e ds → h.group e ≡ g) → length ds ≤ size h n g
unfolding size
few_of_group h n g ds di be gr = omega (arith, count_all n ds be, total_le n (λ e. occurs e ds) (λ e. same (h.group e) g) (λ e l. each e (occurs_or e ds)))
  where
    each : (e : ℕ) → (occurs e ds ≡ 0) ⊎ Mem e ds → occurs e ds ≤ same (h.group e) g
    each e (inl z) = omega arith
    each e (inr m) = omega (arith, di e, same_eq (h.group e) g (gr e m))

-- ---- group g spends k more, and is no ring any more

-- group g has spent k more, and is no ring any more
abbrev pub tapped : Shape → ℕ → ℕ → Shape
tapped h g k = record {
  group = h.group;
  place = h.place;
  low = h.low;
  spent = λ c. pick c g (h.spent g + k) (h.spent c);
  is_open = h.is_open;
  is_ring = λ c. pick c g false (h.is_ring c);
}

-- a tap leaves the sizes
pub tap_size : (h : Shape) (g k n c : ℕ) → size (tapped h g k) n c ≡ size h n c
unfolding size
tap_size h g k n c = refl

-- a tap leaves which edges follow each other
unfoldable pub tap_successive : {es : List Edge} {h : Shape} (g k v c : ℕ) → Successive es h v c → Successive es (tapped h g k) v c
tap_successive g k v c u = record {
  lo = u.lo;
  hi = u.hi;
  lo_at = u.lo_at;
  hi_at = u.hi_at;
  lo_group = u.lo_group;
  hi_group = u.hi_group;
  step = u.step;
  lo_end = u.lo_end;
  hi_end = u.hi_end;
}

module _ {es : List Edge} {relabellings : ℕ} {h : Shape} (w : Courses es relabellings h) (g k : ℕ) (inside : g < length es) (ring : h.is_ring g ≡ true) (less : k < size h (length es) g) where
  abbrev h' : Shape
  h' = tapped h g k

  pub tap_ring : (c : ℕ) → (tapped h g k).is_ring c ≡ true → (c ≢ g) × (h.is_ring c ≡ true)
  tap_ring c t = go (ℕ_discrete c g)
    where
      go : Dec (c ≡ g) → (c ≢ g) × (h.is_ring c ≡ true)
      go (yes e) = absurd (not_both _ t (pick_yes c g false (h.is_ring c) e))
      go (no e) = (e, sym (pick_no c g false (h.is_ring c) e) ∙ t)

  cost' : (c : ℕ) → h'.spent c ≤ size h (length es) c * floor_log (size h (length es) c)
  cost' c = go (ℕ_discrete c g)
    where
      go : Dec (c ≡ g) → h'.spent c ≤ size h (length es) c * floor_log (size h (length es) c)
      go (yes e) = rw (pick_yes c g (h.spent g + k) (h.spent c) e, e) (omega (arith, w.cost_ring g ring))
      go (no e) = rw (pick_no c g (h.spent g + k) (h.spent c) e) (w.cost c)

  other : (c : ℕ) → c ≢ g → h.spent c + size h (length es) c ≤ size h (length es) c * floor_log (size h (length es) c) + 1
      → h'.spent c + size h (length es) c ≤ size h (length es) c * floor_log (size h (length es) c) + 1
  other c e q = rw (pick_no c g (h.spent g + k) (h.spent c) e) q

  each : (c : ℕ) → h'.spent c ≡ h.spent c + same g c * k
  each c = go (ℕ_discrete c g)
    where
      go : Dec (c ≡ g) → h'.spent c ≡ h.spent c + same g c * k
      go (yes e) = rw (pick_yes c g (h.spent g + k) (h.spent c) e, same_eq g c (sym e), e) (omega arith)
      go (no e) = rw (pick_no c g (h.spent g + k) (h.spent c) e, same_ne g c (λ z. e (sym z))) (omega arith)

  sums' : (m : ℕ) → length es ≤ m → total m h'.spent ≡ relabellings + k
  sums' m l =
      let all : total m h'.spent ≡ total m (λ c. h.spent c + same g c * k) = total_same m h'.spent (λ c. h.spent c + same g c * k) (λ c i. each c) in
      omega (arith, all, total_add m h.spent (λ c. same g c * k), total_one m g (λ c. k) (omega arith), w.sums m l)

  round' : (e : ℕ) → e < length es → h.is_open (h.group e) ≡ false → degree es (far es e (h.low e)) ≡ 2 → NextRound es h' e
  unfolding size
  round' e l f c =
      let r = w.round e l f c in
      record { hi = r.hi; hi_at = r.hi_at; hi_group = r.hi_group; hi_end = r.hi_end; place_is = r.place_is }

  leaf' : (x e : ℕ) → LeafAt es h x e → LeafAt es h' x e
  unfolding size
  leaf' x e (at_low a b) = at_low a b
  leaf' x e (at_high a b) = at_high a b

  -- a ring can pay for its tap, if that relabels fewer than its edges
  pub tap_courses : Courses es (relabellings + k) (tapped h g k)
  unfolding size
  tap_courses = record {
    below = w.below;
    fits = w.fits;
    apart = w.apart;
    ends = w.ends;
    leaf_open = w.leaf_open;
    leaf = λ x e c a. leaf' x e (w.leaf x e c a);
    between = λ v e c a o. tap_successive g k v (h.group e) (w.between v e c a o);
    round = round';
    ring_shut = λ c t. w.ring_shut c (tap_ring c t).1;
    cost = cost';
    cost_open = λ c o. other c (λ e. not_both _ o (rw e (w.ring_shut g ring))) (w.cost_open c o);
    cost_ring = λ c t. let i = tap_ring c t in other c i.0 (w.cost_ring c i.1);
    sums = sums';
  }
